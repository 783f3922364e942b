-- `standby::step` meets its contract: it is refused, or comes to its event.
use Prim.Native.Nat.{ℕ}
use native.Mathlib.Omega.{arith}
use mathlib.Core.Path.{◌≡◌, refl, sym, ◌∙◌}
use Rattle.words.specs.Said.{first}
use Rattle.refusals.proofs.Apart.{some_number}
use Rattle.settings.specs.declared.Settings.{Settings}
use Rattle.settings.proofs.Laws.{accepted_in_range}
use Rattle.messages.specs.Answers.{said}
use Rattle.messages.proofs.Outcomes.{so_refused, not_refused}
use Rattle.standby_rules.specs.declared.Standby.{Standby}
use Rattle.standby_rules.specs.declared.StandbyEvent.{StandbyEvent}
use Rattle.standby_rules.specs.declared.StandbyEvent.TheVariants.{Begin, Ack, Poll}
use Rattle.standby_rules.specs.Standby.{refusals_of, step_within}
use Rattle.standby_rules.proofs.Refusals.{ack_counted}
use Rattle.standby.specs.Parts.{Ready}
use Rattle.standby.proofs.step.Goals as goal

pub returns-in-Err : goal.returns-in-Err
unfolding step_within said
returns-in-Err c =
    let a = c.args in
    so_refused (refusals_of a.s a.q a.reading a.event) a.q _ refl c.in-Err.ensures (some_number _)

-- an observer that is not refused has a place
ready : (s : Settings) (q : Standby) (r : ℕ) (event : StandbyEvent) → first (refusals_of s q r event) ≡ 0 → Ready event
ready s q r Begin e = tt
ready s q r (Ack x ts cnt status) e =
    let counted = ack_counted s q r x ts cnt e in
    omega (arith, counted.observer, (accepted_in_range s counted.admitted.settings).n_greatest)
ready s q r Poll e = tt

pub perform-requires : goal.perform-requires
perform-requires c = let a = c.args in ready a.s a.q a.reading a.event (sym c.in-Ok.ensures)

pub returns-in-Ok : goal.returns-in-Ok
unfolding step_within
returns-in-Ok c =
    let a = c.args in
    c.perform.ensures ∙ sym (not_refused (refusals_of a.s a.q a.reading a.event) a.q _ (sym c.in-Ok.ensures))
