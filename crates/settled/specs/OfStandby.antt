-- Determinacy of the public functions of `standby_rules`, `standby_form` and `standby`.
use Rattle.std.specs.Prelude.{refl}
use Rattle.settled.specs.Settled.{Settled}
use Rattle.standby_rules.specs.contracts.closed_round as closed_round
use Rattle.standby_form.specs.contracts.is_dead as is_dead
use Rattle.standby_form.specs.contracts.kept_marks as kept_marks
use Rattle.standby_form.specs.contracts.has_form as has_form
use Rattle.standby.specs.contracts.step as step

pub record StandbySettled : Type 0 where
  pub closed_round : Settled closed_round.ended (λ M 𝓤. closed_round.clauses) refl
  pub is_dead : Settled is_dead.ended (λ M 𝓤. is_dead.clauses) refl
  pub kept_marks : Settled kept_marks.ended (λ M 𝓤. kept_marks.clauses) refl
  pub has_form : Settled has_form.ended (λ M 𝓤. has_form.clauses) refl
  pub step : Settled step.ended (λ M 𝓤. step.clauses) refl
