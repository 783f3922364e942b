-- The word is put at the front, if it fits.
use native.Mathlib.Omega.{arith}
use mathlib.Core.List.{[]}
use mathlib.Core.Path.{sym, ap, ◌∙◌}
use Rattle.words.specs.Said.Said.{gives}
use Rattle.fields.proofs.Rooms.{put_none, put_then}
use Rattle.lines_rules.proofs.Lines.{fits_said, fits_room, short_said, short_room}
use Rattle.line_room.proofs.write_word.Goals as goal

pub returns-then-out-word : goal.returns-then-out-word
returns-then-out-word c =
    let a = c.args in (
      sym (short_said a.word.now a.out.now (omega arith)),
      sym
          (short_room a.word.now a.out.now (omega arith)),
    )

pub returns : goal.returns
returns c =
    let a = c.args in
    let word = a.word.now in
    let room = a.out.now in
    let p = c.put_bytes.ensures in
    let one =
    put_then [] room word (put_none room) (omega (arith, c.if-out-word.false)) p.0 p.1 in (
      ap gives one.place ∙ sym (fits_said word room (omega (arith, c.if-out-word.false))),
      one.holds ∙ sym (fits_room word room (omega (arith, c.if-out-word.false))),
    )
