-- After k turns the row has its first k numbers; where one is missing, so is the row.
use Rattle.std.proofs.Common.{arith, ◌≡◌, refl, sym, ap, ◌∙◌, ◌+◌, add-one}
use native.Mathlib.Nat.{le_antisymm}
use Rattle.std.specs.Prelude.{None}
use Rattle.step_lines.specs.Rows.{row, row_begun}
use Rattle.step_lines.proofs.Rows.{extended_by, none_stays}
use Rattle.step_lines.proofs.row_of.Goals as goal

pub loop-number-init : goal.loop-number-init
unfolding row_begun
loop-number-init g c = refl

pub returns-in_err-found : goal.returns-in_err-found
unfolding row row_begun
returns-in_err-found g c =
    let l = c.loop-number in
    let missing : row_begun g.row.N c.args.s.now (l.number-index + 1) ≡ None
    = rw (add-one, l.invariant, extended_by, ← c.in_err-found.ensures) refl in
    c.from_residual.ensures ∙ sym (none_stays g.row.N c.args.s.now (l.number-index + 1) g.row.N (omega arith) missing)

pub loop-number-preserved : goal.loop-number-preserved
unfolding row_begun
loop-number-preserved g c = rw (add-one, c.loop-number.invariant, extended_by, ← c.in_ok-found.ensures) refl

pub returns : goal.returns
unfolding row
returns g c =
    sym c.loop-number.invariant ∙ ap (row_begun g.row.N c.args.s.now) (le_antisymm c.loop-number.auto.number-index-end (omega arith))
