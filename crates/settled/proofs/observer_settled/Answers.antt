-- The claims on `observer`: each contract gives its outcome by what the answer says, and all else outright.
use Rattle.std.proofs.Common.{refl, sym, ◌∙◌}
use Rattle.settled.proofs.Apart.{outcome_apart, plan_apart}
use Rattle.settled.proofs.observer_settled.Goals as goal

pub returns : goal.returns
returns c = record {
  plan_of = λ _ _ _ _ _ _ p q. (plan_apart (p ∙ sym q), refl);
  step = λ _ _ _ _ _ _ p q. (outcome_apart (p ∙ sym q), refl);
  restart = λ _ _ _ _ _ _ p q. (p ∙ sym q, refl);
}
