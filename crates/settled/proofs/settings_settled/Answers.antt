-- The claims on `refusals`, `settings`, `quorums` and `messages`: each contract gives its outcome outright, or by what the answer says.
use Rattle.std.proofs.Common.{refl, sym, ◌∙◌}
use Rattle.refusals.proofs.Results.{said_in_apart, number_in_apart}
use Rattle.settled.proofs.settings_settled.Goals as goal

pub returns : goal.returns
returns c = record {
  number_from = λ _ _ _ _ _ _ p q. (p ∙ sym q, refl);
  settings_of = λ _ _ _ _ _ _ p q. (p ∙ sym q, refl);
  slacks_of = λ _ _ _ _ _ _ p q. (said_in_apart (p ∙ sym q), refl);
  accept = λ _ _ _ _ _ _ p q. (number_in_apart (p ∙ sym q), refl);
  less = λ _ _ _ _ _ _ p q. (p ∙ sym q, refl);
  round_window = λ _ _ _ _ _ _ p q. (p ∙ sym q, refl);
  judge = λ _ _ _ _ _ _ p q. (said_in_apart (p ∙ sym q), refl);
  contains_survival_quorum = λ _ _ _ _ _ _ p q. (p ∙ sym q, refl);
  contains_query_quorum = λ _ _ _ _ _ _ p q. (p ∙ sym q, refl);
  is_refusal = λ _ _ _ _ _ _ p q. (p ∙ sym q, refl);
  bad_reading = λ _ _ _ _ _ _ p q. (p ∙ sym q, refl);
}
