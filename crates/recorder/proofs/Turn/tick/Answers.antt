-- `recorder::Turn::tick` meets its contract: where a request is due there is a place for its lease.
use native.Mathlib.Omega.{arith}
use mathlib.Core.Path.{sym, ◌∙◌}
use Rattle.messages.specs.Answers.{said, given}
use Rattle.recorder_rules.specs.Recorder.{leases, tick_event}
use Rattle.recorder_leases.proofs.Leases.{placed_push}
use Rattle.recorder.proofs.Turn.tick.Goals as goal

pub returns : goal.returns
unfolding tick_event said given
returns c =
    let a = c.args.self in
    let is_due = sym c.is_due.ensures ∙ c.if-not-is_due.false in
    let push = placed_push (leases a.rec) a.reading (omega (arith, c.requires.room is_due, c.requires.open_leases)) in
    rw (is_due, ← push, ← c.requires.sends, c.requires.open_leases)
