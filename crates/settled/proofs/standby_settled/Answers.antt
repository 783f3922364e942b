-- The claims on `standby_rules`, `standby_form` and `standby`: a closed round, and what is asked of a record, are given outright,
-- the outcome of a step by what its answer says and by the record that it leaves.
use Rattle.std.proofs.Common.{refl, sym, ◌∙◌}
use Rattle.settled.proofs.Apart.{outcome_apart}
use Rattle.settled.proofs.standby_settled.Goals as goal

pub returns : goal.returns
returns c = record {
  closed_round = λ _ _ _ _ _ _ p q. (p ∙ sym q, refl);
  is_dead = λ _ _ _ _ _ _ p q. (p ∙ sym q, refl);
  kept_marks = λ _ _ _ _ _ _ p q. (p ∙ sym q, refl);
  has_form = λ _ _ _ _ _ _ p q. (p ∙ sym q, refl);
  step = λ _ _ _ _ _ _ p q. (outcome_apart (p ∙ sym q), refl);
}
