-- Determinacy of the public functions of `observer`.
use Rattle.std.specs.Prelude.{refl}
use Rattle.settled.specs.Settled.{Settled}
use Rattle.observer.specs.contracts.plan_of as plan_of
use Rattle.observer.specs.contracts.step as step
use Rattle.observer.specs.contracts.restart as restart

pub record ObserverSettled : Type 0 where
  pub plan_of : Settled plan_of.ended (λ M 𝓤. plan_of.clauses) refl
  pub step : Settled step.ended (λ M 𝓤. step.clauses) refl
  pub restart : Settled restart.ended (λ M 𝓤. restart.clauses) refl
