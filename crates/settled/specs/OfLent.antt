-- Determinacy of the public functions of `observer_lent`: the answer, and the record as it stands at exit.
use Rattle.std.specs.Prelude.{refl}
use Rattle.settled.specs.Settled.{Settled}
use Rattle.observer_lent.specs.contracts.step_lent as step_lent
use Rattle.observer_lent.specs.contracts.lend_to_step as lend_to_step

pub record LentSettled : Type 0 where
  pub step_lent : Settled step_lent.ended (λ M 𝓤. step_lent.clauses) refl
  pub lend_to_step : Settled lend_to_step.ended (λ M 𝓤. lend_to_step.clauses) refl
