-- Word, number and line feed are put behind one another, if all of them fit.
use Prim.Native.Nat.{◌+◌, ◌≤◌, ◌<◌}
use native.Mathlib.Omega.{arith}
use mathlib.Core.List.{[], ◌∷◌, ◌++◌}
use mathlib.Core.Path.{sym, ap, ◌∙◌}
use lib.ListN.{length, length-append}
use Rattle.words.specs.Said.Said.{gives}
use Rattle.decimals.specs.Decimals.{digits}
use Rattle.decimals.proofs.Digits.{digits_most}
use Rattle.fields.proofs.Rooms.{put_none, put_then}
use Rattle.lines_rules.proofs.Lines.{fits_said, fits_room, short_said, short_room}
use Rattle.line_room.proofs.write_one.Goals as goal

pub overflow_add-word : goal.overflow_add-word
overflow_add-word c =
    omega (arith, c.digit_count.ensures, digits_most 19 c.args.number (omega (arith, c.ranges.number.fits)), c.well_formed.0.1)

pub overflow_add-word-2 : goal.overflow_add-word-2
overflow_add-word-2 c =
    omega (arith, c.digit_count.ensures, digits_most 19 c.args.number (omega (arith, c.ranges.number.fits)), c.well_formed.0.1)

pub returns-then-out-word : goal.returns-then-out-word
returns-then-out-word c =
    let a = c.args in
    let line = a.word.now ++ digits a.number ++ (10 ∷ []) in
    let short : length a.out.now < length line = simp length-append (omega (arith, c.digit_count.ensures)) in
    (sym (short_said line a.out.now short), sym (short_room line a.out.now short))

pub returns : goal.returns
returns c =
    let a = c.args in
    let word = a.word.now in
    let number = digits a.number in
    let room = a.out.now in
    let enough : length word + length number + 1 ≤ length room =
    omega (arith, c.digit_count.ensures, c.if-out-word.false) in
    let worded = c.put_bytes-number_at.ensures in
    let numbered = c.put_number-end_at.ensures in
    let done = c.put_bytes.ensures in
    let one = put_then [] room word (put_none room) (omega arith) worded.0 worded.1 in
    let two = put_then word room number one (omega arith) numbered.0 numbered.1 in
    let three = put_then (word ++ number) room (10 ∷ []) two (simp length-append (omega arith)) done.0 done.1 in
    let line = word ++ number ++ (10 ∷ []) in
    let fits : length line ≤ length room = simp length-append (omega arith) in
    (ap gives three.place ∙ sym (fits_said line room fits), three.holds ∙ sym (fits_room line room fits))
