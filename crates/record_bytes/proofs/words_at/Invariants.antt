-- After i turns the first i words are there.
use Prim.Native.Nat.{◌-◌}
use mathlib.Core.Path.{◌≡◌}
use mathlib.Core.List.{◌++◌}
use lib.ListN.{replicate}
use Rattle.firmware_rules.specs.Bytes.{words_at}
use Rattle.record_bytes.proofs.words_at.Given as goal

abbrev pub invariant-loop-i : goal.invariant-loop-i
invariant-loop-i g l = l.word-items ≡ words_at l.i l.b ++ replicate (g.row.N - l.i) 0
