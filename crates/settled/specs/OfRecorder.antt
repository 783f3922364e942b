-- Determinacy of the public functions of `recorder_rules`, `recorder_form`, `recorder_leases` and `recorder`.
use Rattle.std.specs.Prelude.{refl}
use Rattle.settled.specs.Settled.{Settled}
use Rattle.recorder_rules.specs.contracts.fresh_recorder as fresh_recorder
use Rattle.recorder_form.specs.contracts.has_form as has_form
use Rattle.recorder_leases.specs.contracts.is_granted_above as is_granted_above
use Rattle.recorder_leases.specs.contracts.advance as advance
use Rattle.recorder.specs.contracts.step as step

pub record RecorderSettled : Type 0 where
  pub fresh_recorder : Settled fresh_recorder.ended (λ M 𝓤. fresh_recorder.clauses) refl
  pub has_form : Settled has_form.ended (λ M 𝓤. has_form.clauses) refl
  pub is_granted_above : Settled is_granted_above.ended (λ M 𝓤. is_granted_above.clauses) refl
  pub advance : Settled advance.ended (λ M 𝓤. advance.clauses) refl
  pub step : Settled step.ended (λ M 𝓤. step.clauses) refl
