-- Too long, too little room, nothing, or the lines.
use Rattle.std.proofs.Common.{refl, sym, ◌∙◌, [], length, arith}
use borrow.Author.Tests.{eqb-true}
use Rattle.fields.proofs.Rooms.{put_nothing}
use Rattle.messages.specs.Answers.{said}
use Rattle.stepfile_rules.specs.Lines.{lines_of}
use Rattle.stepfile_rules.specs.Files.{answers_of}
use Rattle.stepfile_rules.proofs.Files.{in_length, too_long_said, too_short, none_answered, settled}
use Rattle.stepfile.proofs.answer_file.Goals as goal

pub returns-then-input-gt-MOST_BYTES : goal.returns-then-input-gt-MOST_BYTES
unfolding said
returns-then-input-gt-MOST_BYTES c =
    let t = too_long_said c.args.input.now c.args.out.now c.if-input-gt-MOST_BYTES.true in
    (c.write_step_answer.ensures.0 ∙ t.0, c.write_step_answer.ensures.1 ∙ t.1)

pub returns-then-out-input : goal.returns-then-out-input
returns-then-out-input c =
    let l = in_length c.args.input.now c.if-input-gt-MOST_BYTES.false in
    let t = too_short c.args.input.now c.args.out.now (rw l.1 c.if-out-input.true) in
    (sym t.0, sym t.1)

pub returns-then-is_empty : goal.returns-then-is_empty
returns-then-is_empty c =
    let l = in_length c.args.input.now c.if-input-gt-MOST_BYTES.false in
    let none = eqb-true (length c.args.input.now) 0 (sym c.is_empty.ensures ∙ c.if-is_empty.true) in
    settled c.args.input.now c.args.out.now (rw l.1 c.if-out-input.false) [] (l.0 ∙ none_answered c.args.input.now none) _ _ refl
    (put_nothing c.args.out.now 0 (omega arith))

pub returns : goal.returns
returns c =
    let l = in_length c.args.input.now c.if-input-gt-MOST_BYTES.false in
    settled c.args.input.now c.args.out.now (rw l.1 c.if-out-input.false) (answers_of (lines_of c.args.input.now)) l.0 _ _
    c.answer_lines_of.ensures.0 c.answer_lines_of.ensures.1
