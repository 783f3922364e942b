-- Whatever has been read, reading on from the i-th byte gives what reading on from the second gave.
use mathlib.Core.Path.{◌≡◌}
use lib.ListN.{drop}
use Rattle.decimals.specs.Decimals.{read_on}
use Rattle.decimals.proofs.read_on.Given as goal

abbrev pub invariant-loop-i : goal.invariant-loop-i
invariant-loop-i l = read_on l.greatest l.first 1 (drop 1 l.s) ≡ read_on l.greatest l.value l.i (drop l.i l.s)
