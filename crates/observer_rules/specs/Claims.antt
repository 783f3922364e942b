-- What every step of the observer keeps, whatever its event. A refused step hands the record back, so each claim covers it too.
use Rattle.std.specs.Prelude.{ℕ, ◌+◌, ◌≤◌, true, ◌≡◌}
use Rattle.settings.specs.declared.Settings.{Settings}
use Rattle.settings.specs.Settings.{O}
use Rattle.messages.specs.declared.Status.TheVariants.{Dead}
use Rattle.messages.specs.declared.Message.TheVariants.{LeaseGrant}
use Rattle.messages.specs.Answers.{refuses, sends}
use Rattle.observer_rules.specs.declared.Observer.{Observer}
use Rattle.observer_rules.specs.declared.ObserverEvent.{ObserverEvent}
use Rattle.observer_rules.specs.Observer.{has_form, status_at, restart_of, step_of, fresh}

-- A fresh record has the form, and every step and every restart leaves a record of the form.
pub record FormIsKept : Type 0 where
  pub at_first : (s : Settings) → has_form s fresh ≡ true
  pub by_steps : (s : Settings) (o : Observer) (x r : ℕ) (event : ObserverEvent) → has_form s o ≡ true
      → has_form s (step_of s o x r event).rec ≡ true
  pub by_restarts : (s : Settings) (o : Observer) → has_form s o ≡ true → has_form s (restart_of o) ≡ true
  pub no_three : (s : Settings) (o : Observer) (x r : ℕ) (event : ObserverEvent) → has_form s o ≡ true
      → (step_of s o x r event).answer ≡ refuses 3 → ⊥

-- Latest never falls.
abbrev pub LatestNeverFalls : Type 0
LatestNeverFalls =
    (s : Settings) (o : Observer) (x r : ℕ) (event : ObserverEvent) → o.latest ≤ (step_of s o x r event).rec.latest

-- Deadline first: however a request is cut, a new latest stands under the new deadline.
abbrev pub DeadlineFirst : Type 0
DeadlineFirst =
    (s : Settings) (o : Observer) (x r : ℕ) (event : ObserverEvent) → ((step_of s o x r event).rec.latest ≡ o.latest → ⊥)
    → (step_of s o x r event).rec.deadline ≡ r + O s

-- A grant is sent for what is stored, and for nothing else.
abbrev pub GrantIsStored : Type 0
GrantIsStored =
    (s : Settings) (o : Observer) (x r : ℕ) (event : ObserverEvent) (c : ℕ)
    → (step_of s o x r event).answer ≡ sends (LeaseGrant c)
    → ((step_of s o x r event).rec.latest ≡ c) × ((step_of s o x r event).rec.deadline ≡ r + O s)

-- An ack says Dead exactly from the deadline on.
abbrev pub DeadFromDeadline : Type 0
DeadFromDeadline =
    (o : Observer) (r : ℕ) → (status_at o r ≡ Dead → o.deadline ≤ r) × (o.deadline ≤ r → status_at o r ≡ Dead)
