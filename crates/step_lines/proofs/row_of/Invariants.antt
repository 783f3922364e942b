-- After k turns the row has its first k numbers.
use mathlib.Core.Path.{◌≡◌}
use Rattle.std.specs.Prelude.{Some}
use Rattle.step_lines.specs.Rows.{row_begun}
use Rattle.step_lines.proofs.row_of.Given as goal

abbrev pub invariant-loop-number : goal.invariant-loop-number
invariant-loop-number g l = row_begun g.row.N l.s l.number-index ≡ Some (record { behind = l.behind; numbers = l.number-items })
