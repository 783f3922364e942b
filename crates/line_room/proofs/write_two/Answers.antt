-- Word, number, tab, number and end are put behind one another, if all of them fit.
use Prim.Native.Nat.{◌+◌, ◌≤◌, ◌<◌}
use native.Mathlib.Omega.{arith}
use mathlib.Core.List.{[], ◌++◌}
use mathlib.Core.Path.{sym, ap, ◌∙◌}
use lib.ListN.{length, length-append}
use Rattle.words.specs.Lists.{text}
use Rattle.words.specs.Said.Said.{gives}
use Rattle.decimals.specs.Decimals.{digits}
use Rattle.decimals.proofs.Digits.{digits_most}
use Rattle.fields.proofs.Rooms.{put_none, put_then}
use Rattle.lines_rules.specs.Writing.{two_numbers}
use Rattle.lines_rules.proofs.Lines.{fits_said, fits_room, short_said, short_room}
use Rattle.line_room.proofs.write_two.Goals as goal

pub returns-then-out-word : goal.returns-then-out-word
returns-then-out-word c =
    let a = c.args in
    let line = two_numbers a.word.now a.first a.second a.end.now in
    let short : length a.out.now < length line = simp length-append (omega arith) in
    (sym (short_said line a.out.now short), sym (short_room line a.out.now short))

pub overflow_add-digit_count : goal.overflow_add-digit_count
overflow_add-digit_count c =
    omega (arith, c.digit_count.ensures, digits_most 19 c.args.first (omega (arith, c.ranges.first.fits)))

pub overflow_add-digit_count-2 : goal.overflow_add-digit_count-2
overflow_add-digit_count-2 c =
    omega (
      arith,
      c.digit_count.ensures,
      c.digit_count-2.ensures,
      digits_most 19 c.args.first
          (omega (arith, c.ranges.first.fits)),
      digits_most 19 c.args.second (omega (arith, c.ranges.second.fits)),
    )

pub overflow_add-digit_count-3 : goal.overflow_add-digit_count-3
overflow_add-digit_count-3 c =
    omega (
      arith,
      c.digit_count.ensures,
      c.digit_count-2.ensures,
      digits_most 19 c.args.first
          (omega (arith, c.ranges.first.fits)),
      digits_most 19 c.args.second (omega (arith, c.ranges.second.fits)),
      c.well_formed,
    )

pub returns-then-left-digit_count : goal.returns-then-left-digit_count
returns-then-left-digit_count c =
    let a = c.args in
    let line = two_numbers a.word.now a.first a.second a.end.now in
    let short : length a.out.now < length line =
    simp length-append (omega (
      arith,
      c.digit_count.ensures,
      c.digit_count-2.ensures,
      c.if-left-digit_count.true,
      c.if-out-word.false,
    )) in
    (sym (short_said line a.out.now short), sym (short_room line a.out.now short))

pub returns : goal.returns
returns c =
    let a = c.args in
    let word = a.word.now in
    let first = digits a.first in
    let second = digits a.second in
    let end = a.end.now in
    let room = a.out.now in
    let enough : length word + length first + 1 + length second + length end ≤ length room =
    omega (
      arith,
      c.digit_count.ensures,
      c.digit_count-2.ensures,
      c.if-out-word.false,
      c.if-left-digit_count.false,
    ) in
    let tab = text "\t" in
    let p₁ = c.put_bytes-first_at.ensures in
    let p₂ = c.put_number-tab_at.ensures in
    let p₃ = c.put_bytes-second_at.ensures in
    let p₄ = c.put_number-end_at.ensures in
    let p₅ = c.put_bytes.ensures in
    let one = put_then [] room word (put_none room) (omega arith) p₁.0 p₁.1 in
    let two = put_then word room first one (omega arith) p₂.0 p₂.1 in
    let three = put_then (word ++ first) room tab two (simp length-append (omega arith)) p₃.0 p₃.1 in
    let four = put_then (word ++ first ++ tab) room second three (simp length-append (omega arith)) p₄.0 p₄.1 in
    let five = put_then (word ++ first ++ tab ++ second) room end four (simp length-append (omega arith)) p₅.0 p₅.1 in
    let line = two_numbers word a.first a.second end in
    let fits : length line ≤ length room = simp length-append (omega arith) in
    (ap gives five.place ∙ sym (fits_said line room fits), five.holds ∙ sym (fits_room line room fits))
