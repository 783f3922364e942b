-- The claims on `observer_lent`: each contract gives its outcome by what the answer says, and the record outright.
use Rattle.std.proofs.Common.{◌≡◌, Result, refl, sym, ap, ◌∙◌}
use Rattle.refusals.specs.declared.Refusal.{Refusal}
use Rattle.messages.specs.declared.Answer.{Answer}
use Rattle.messages.specs.Answers.{said}
use Rattle.messages.specs.Outcomes.{Outcome, ◌leaving◌}
use Rattle.messages.proofs.Apart.{said_apart}
use Rattle.observer_rules.specs.declared.Observer.{Observer}
use Rattle.settled.proofs.Apart.{outcome_apart}
use Rattle.settled.proofs.lent_settled.Goals as goal

both : {a b : Result Answer Refusal} {x y : Observer} → (said a leaving x) ≡ (said b leaving y) → (a ≡ b) × (x ≡ y)
both e = (said_apart (ap (λ (o : Outcome Observer). o.answer) e), ap (λ (o : Outcome Observer). o.rec) e)

pub returns : goal.returns
returns c = record {
  step_lent = λ _ _ _ _ _ _ p q. let e = both (p ∙ sym q) in (e.0, ap (λ o. (o, (tt, (tt, (tt, (tt, tt)))))) e.1);
  lend_to_step = λ _ _ _ _ _ _ p q. (outcome_apart (p ∙ sym q), refl);
}
