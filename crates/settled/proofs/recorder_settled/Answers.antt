-- The claims on `recorder_form`, `recorder_leases` and `recorder`: what is asked of a record and the record at the event are
-- given outright, the outcome of a step by what its answer says and by the record that it leaves.
use Rattle.std.proofs.Common.{refl, sym, ◌∙◌}
use Rattle.settled.proofs.Apart.{outcome_apart}
use Rattle.settled.proofs.recorder_settled.Goals as goal

pub returns : goal.returns
returns c = record {
  fresh_recorder = λ _ _ _ _ _ _ p q. (p ∙ sym q, refl);
  has_form = λ _ _ _ _ _ _ p q. (p ∙ sym q, refl);
  is_granted_above = λ _ _ _ _ _ _ p q. (p ∙ sym q, refl);
  advance = λ _ _ _ _ _ _ p q. (p ∙ sym q, refl);
  step = λ _ _ _ _ _ _ p q. (outcome_apart (p ∙ sym q), refl);
}
