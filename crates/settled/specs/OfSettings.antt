-- Determinacy of the public functions of `refusals`, `settings`, `quorums` and `messages`.
use Rattle.std.specs.Prelude.{refl}
use Rattle.settled.specs.Settled.{Settled}
use Rattle.refusals.specs.contracts.U32FromRefusal.from as number_from
use Rattle.settings.specs.contracts.settings_of as settings_of
use Rattle.settings.specs.contracts.slacks_of as slacks_of
use Rattle.settings.specs.contracts.accept as accept
use Rattle.settings.specs.contracts.less as less
use Rattle.settings.specs.contracts.round_window as round_window
use Rattle.settings.specs.contracts.judge as judge
use Rattle.quorums.specs.contracts.contains_survival_quorum as contains_survival_quorum
use Rattle.quorums.specs.contracts.contains_query_quorum as contains_query_quorum
use Rattle.messages.specs.contracts.is_refusal as is_refusal
use Rattle.messages.specs.contracts.bad_reading as bad_reading

pub record SettingsSettled : Type 0 where
  pub number_from : Settled number_from.ended (λ M 𝓤. number_from.clauses) refl
  pub settings_of : Settled settings_of.ended (λ M 𝓤. settings_of.clauses) refl
  pub slacks_of : Settled slacks_of.ended (λ M 𝓤. slacks_of.clauses) refl
  pub accept : Settled accept.ended (λ M 𝓤. accept.clauses) refl
  pub less : Settled less.ended (λ M 𝓤. less.clauses) refl
  pub round_window : Settled round_window.ended (λ M 𝓤. round_window.clauses) refl
  pub judge : Settled judge.ended (λ M 𝓤. judge.clauses) refl
  pub contains_survival_quorum : Settled contains_survival_quorum.ended (λ M 𝓤. contains_survival_quorum.clauses) refl
  pub contains_query_quorum : Settled contains_query_quorum.ended (λ M 𝓤. contains_query_quorum.clauses) refl
  pub is_refusal : Settled is_refusal.ended (λ M 𝓤. is_refusal.clauses) refl
  pub bad_reading : Settled bad_reading.ended (λ M 𝓤. bad_reading.clauses) refl
