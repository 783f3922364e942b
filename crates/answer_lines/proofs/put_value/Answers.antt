-- The tab, then the number behind it.
use Rattle.std.proofs.Common.{arith, ◌∙◌, length, ap}
use Rattle.words.specs.Lists.{text}
use Rattle.decimals.specs.Decimals.{digits}
use Rattle.fields.proofs.Rooms.{next_fits, put_more, length_put}
use Rattle.answer_lines.proofs.put_value.Goals as goal

pub returns : goal.returns
returns c =
    let a = c.args in
    let room = a.out.now in
    let tab = c.put_bytes-value_at.ensures in
    let behind = tab.0 ∙ next_fits room a.at (text "\t") (omega (arith, c.requires)) in
    let sized = ap length tab.1 ∙ length_put room a.at (text "\t") in
    let number = c.put_number.ensures in (
      number.0 ∙ next_fits c.put_bytes-value_at.new.out c.put_bytes-value_at.result (digits a.value) (omega (arith, c.requires, behind, sized)) ∙ omega (arith, behind),
      number.1 ∙ rw (tab.1, behind) (put_more room a.at (text "\t") (digits a.value) (omega (arith, c.requires))),
    )
