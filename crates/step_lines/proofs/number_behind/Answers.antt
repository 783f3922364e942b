-- One tab, then the number; else there is no row.
use Rattle.std.proofs.Common.{arith, sym, ap, ◌∙◌, ◌+◌, length, length-drop}
use Rattle.step_lines.specs.Rows.{tabbed_number}
use Rattle.step_lines.proofs.Rows.{tabbed, tab_within, number_within, was_read}
use Rattle.step_lines.proofs.number_behind.Goals as goal

pub overflow_add-result : goal.overflow_add-result
overflow_add-result c =
    let t = tabbed c.args.s.now c.args.at _ _ c.in_ok-part.ensures c.part_from.ensures in
    let w = tab_within c.args.s.now c.args.at t.0 in
    omega arith

pub overflow_add-result-2 : goal.overflow_add-result-2
overflow_add-result-2 c =
    let t = tabbed c.args.s.now c.args.at _ _ c.in_ok-part.ensures c.part_from.ensures in
    let w = tab_within c.args.s.now c.args.at t.0 in
    let read = was_read c.read_number.result c.in_ok-number.number c.in_ok-number.ensures.value in
    let n = number_within _ _ _ (sym c.read_number.ensures ∙ read) in
    omega (arith, ap length t.1, length-drop (c.args.at + 1) c.args.s.now)

pub returns : goal.returns
unfolding tabbed_number
returns c =
    let t = tabbed c.args.s.now c.args.at _ _ c.in_ok-part.ensures c.part_from.ensures in
    let read = was_read c.read_number.result c.in_ok-number.number c.in_ok-number.ensures.value in
    rw (t.0, ← t.1, ← c.read_number.ensures, read)
