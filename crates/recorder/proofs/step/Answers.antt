-- `recorder::step` meets its contract: it is refused, or goes by what `advance` gives.
use native.Mathlib.Omega.{arith}
use mathlib.Core.Path.{refl, sym, ◌∙◌}
use Rattle.refusals.proofs.Apart.{some_number}
use Rattle.settings.specs.declared.Settings.{Settings}
use Rattle.settings.proofs.Laws.{accepted_in_range}
use Rattle.messages.specs.Answers.{said, given, words_of}
use Rattle.messages.proofs.Outcomes.{so_refused}
use Rattle.recorder_rules.specs.declared.Recorder.{Recorder}
use Rattle.recorder_rules.specs.declared.RecorderEvent.{RecorderEvent}
use Rattle.recorder_rules.specs.declared.RecorderEvent.TheVariants.{Tick, Grant, Drive}
use Rattle.recorder_rules.specs.Recorder.{advanced, refusals_of, event_of, step_of}
use Rattle.recorder_rules.specs.Claims.{Sized}
use Rattle.recorder.specs.Parts.{Ready}
use Rattle.recorder_rules.proofs.Ways.{Passes, allowed, allowed_grant}
use Rattle.recorder_rules.proofs.Places.{sized}
use Rattle.recorder.proofs.Walked.{by_advance, goes_on_lem, roomy}
use Rattle.recorder.proofs.step.Goals as goal

pub returns-in-Err : goal.returns-in-Err
unfolding step_of said
returns-in-Err c =
    let a = c.args in
    so_refused (refusals_of a.s a.rec a.reading a.event) a.rec _ refl c.in-Err.ensures (some_number _)

ready : (s : Settings) (rec : Recorder) (r : _) (event : RecorderEvent) → Passes s rec r event → Sized rec
    → Ready s (advanced s rec r) r event
ready s rec r Tick e has-size = roomy s rec r (allowed s rec r Tick e) has-size
ready s rec r (Grant x j) e has-size =
    let range = accepted_in_range s (allowed s rec r (Grant x j) e).settings in
    omega (arith, (allowed_grant s rec r x j e).0)
ready s rec r Drive e has-size = tt

pub perform-requires : goal.perform-requires
perform-requires c =
    rw (goes_on_lem _ _ _ c.in-GoesOn.ensures)
    (ready _ _ _ c.args.event (sym c.in_default.ensures) (sized _ _ c.well_formed.1.0))

pub returns-in-GoesOn : goal.returns-in-GoesOn
unfolding step_of
returns-in-GoesOn c =
    let a = c.args in
    sym (by_advance a.s a.rec a.reading (refusals_of a.s a.rec a.reading a.event) (sym c.in_default.ensures)
    (event_of a.s a.reading a.event)
    ∙ rw (← c.in-GoesOn.ensures, ← c.perform.ensures))

pub returns-in-Stopped : goal.returns-in-Stopped
unfolding step_of said given words_of
returns-in-Stopped c =
    let a = c.args in
    sym (by_advance a.s a.rec a.reading (refusals_of a.s a.rec a.reading a.event) (sym c.in_default.ensures)
    (event_of a.s a.reading a.event)
    ∙ rw (← c.in-Stopped.ensures))
