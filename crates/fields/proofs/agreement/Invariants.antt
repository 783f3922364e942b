-- The loop has passed i bytes that agree: what the two have in common is i and what they have in common from there on.
use Prim.Native.Nat.{◌+◌}
use mathlib.Core.Path.{◌≡◌}
use lib.ListN.{drop}
use Rattle.fields.specs.Places.{agree}
use Rattle.fields.proofs.agreement.Given as goal

abbrev pub invariant-loop-i : goal.invariant-loop-i
invariant-loop-i l = agree l.s l.word ≡ l.i + agree (drop l.i l.s) (drop l.i l.word)
