-- Each turn performs one line and writes its answer behind those before it.
use Rattle.std.proofs.Common.{◌≡◌, refl, ap, sym, ◌∙◌, ℕ, ◌+◌, ◌-◌, ◌≤◌, ◌<◌, List, length, take, drop, arith}
use lib.ListN.{length-drop}
use borrow.Author.Tests.{eqb-true, eqb-false}
use borrow.Rule.Slice.PartMut.{put_mid}
use Rattle.fields.specs.Places.{put_at}
use Rattle.fields.proofs.Rooms.{part_from_lem, put_part}
use Rattle.lines_rules.proofs.Lines.{fits_said, fits_room}
use Rattle.messages.specs.Answers.{said}
use Rattle.messages.specs.Outcomes.{Outcome, ◌leaving◌}
use Rattle.step_lines.specs.Reading.{step_line}
use Rattle.answer_lines.specs.Answers.{answer_line}
use Rattle.session.specs.declared.Session.{Session}
use Rattle.session.specs.Session.{with_recorder, with_observer, with_standby, perform_of}
use Rattle.stepfile_rules.specs.Parts.{line_length, length_said}
use Rattle.stepfile_rules.proofs.Lines.{line_some}
use Rattle.stepfile_rules.proofs.Steps.{session_of, gone_none, gone_sized, gone_fits, gone_next, gone_all}
use Rattle.stepfile.proofs.answer_steps.Goals as goal
use Rattle.stepfile.proofs.answer_steps.Goals.{in-Some-Recorder, in-Some-Observer, in-Some-Standby, in-None}

-- what a line's step left, and the session that it found
abbrev after : goal.After-length_of-at → Outcome Session
after c = said c.match-read_step_line.answer leaving session_of c.args.s c.match-read_step_line.rec c.match-read_step_line.observers c.match-read_step_line.asking

abbrev found : goal.After-length_of-at → Session
found c = session_of c.args.s c.loop-rest.rec c.loop-rest.observers c.loop-rest.asking

joined : (c : goal.After-length_of-at) → after c ≡ perform_of (found c) c.read_step_line.result
unfolding perform_of with_recorder with_observer with_standby said
joined c = elim c.match-read_step_line.branch [
  | in-Some-Recorder w ↦
      rw (w.rec-is, w.observers-is, w.asking-is, w.answer-is, w.in-Some-Recorder.is, w.in-Some-Recorder.field-0-is)
      (ap (with_recorder (found c)) w.step-done.ensures)
  | in-Some-Observer w ↦
      rw (
        w.rec-is,
        w.observers-is,
        w.asking-is,
        w.answer-is,
        w.in-Some-Observer.is,
        w.in-Some-Observer.field-0-is,
        w.with_observer-placed.ensures,
        ← w.observer_at.ensures,
      )
      (ap (with_observer (found c) w.in-Some-Observer.x) w.step-done-in-Some-Observer.ensures)
  | in-Some-Standby w ↦
      rw (w.rec-is, w.observers-is, w.asking-is, w.answer-is, w.in-Some-Standby.is, w.in-Some-Standby.field-0-is)
      (ap (with_standby (found c)) w.step-done-in-Some-Standby.ensures)
  | in-None w ↦ rw (w.rec-is, w.observers-is, w.asking-is, w.answer-is, w.in-None.is) refl
]

line-performed : (c : goal.After-length_of-at)
    → after c ≡ perform_of (found c) (step_line (take (line_length c.loop-rest.rest.now) c.loop-rest.rest.now))
line-performed c = joined c ∙ ap (perform_of (found c)) (c.read_step_line.ensures ∙ ap step_line c.split_line.ensures.0)

more : (c : goal.After-length_of-at) → 0 < length c.loop-rest.rest.now
more c = let some = eqb-false (length c.loop-rest.rest.now) 0 (sym c.is_empty.ensures ∙ c.loop-rest-test.true) in omega arith

fits : (c : goal.After-length_of-at) → c.loop-rest.at + length (answer_line (said c.match-read_step_line.answer)) ≤ length c.loop-rest.out
fits c = rw (← (line-performed c)) at (gone_fits c.loop-rest.invariant (more c))

-- the bytes of the answer, and the loop's room and place before it
abbrev answer : goal.After-length_of-at → List ℕ
answer c = answer_line (said c.match-read_step_line.answer)

abbrev room : goal.After-length_of-at → List ℕ
room c = c.loop-rest.out

abbrev place : goal.After-length_of-at → ℕ
place c = c.loop-rest.at

in-part : (c : goal.After-length_of-at)
    → length (answer c) ≤ length (take (length (room c) - place c) (drop (place c) (room c)))
in-part c = rw (part_from_lem (place c) (room c), length-drop (place c) (room c)) (omega (arith, fits c))

written-length : (c : goal.After-length_of-at) → c.length_of-at.result ≡ length (answer c)
unfolding length_said
written-length c = c.length_of-at.ensures ∙ ap length_said (c.write_step_answer.ensures.0 ∙ fits_said _ _ (in-part c))

written_out : (c : goal.After-length_of-at)
    → put_mid (place c) (length (room c) - place c) (room c) c.write_step_answer.new.out ≡ put_at (room c) (place c) (answer c)
written_out c =
    ap (λ (part : List ℕ). put_mid (place c) (length (room c) - place c) (room c) part)
    (c.write_step_answer.ensures.1 ∙ fits_room _ _ (in-part c)) ∙ put_part (room c) (place c) (answer c) (fits c)

pub loop-rest-init : goal.loop-rest-init
loop-rest-init c = rw c.start-begun.ensures (gone_none c.requires.1)

pub overflow_add-at : goal.overflow_add-at
overflow_add-at c = omega (arith, fits c, written-length c, gone_sized c.loop-rest.invariant, c.well_formed)

pub loop-rest-smaller : goal.loop-rest-smaller
loop-rest-smaller c =
    omega (
      arith,
      ap length c.split_line.ensures.1,
      length-drop (line_length c.loop-rest.rest.now) c.loop-rest.rest.now,
      line_some c.loop-rest.rest.now (more c),
      more c,
    )

pub loop-rest-preserved : goal.loop-rest-preserved
loop-rest-preserved c =
    rw (written-length c, c.split_line.ensures.1)
    (gone_next c.loop-rest.invariant (more c) (after c) (line-performed c) _ (written_out c))

pub returns : goal.returns
returns c =
    gone_all c.loop-rest.invariant (eqb-true (length c.loop-rest.rest.now) 0 (sym c.is_empty.ensures ∙ c.loop-rest-test.false))
