-- `recorder_leases::granted_above` meets its contract. The loop's invariant: the marks of the observers passed are set, the
-- rest are not.
use Prim.Native.Nat.{◌≤◌, ◌-◌}
use mathlib.Core.Path.{◌≡◌}
use mathlib.Core.Bool.{false}
use mathlib.Core.List.{◌++◌, map}
use lib.ListN.{take, replicate}
use Rattle.words.specs.Tests.{◌<?◌}
use Rattle.recorder_leases.proofs.granted_above.Given as goal

abbrev pub invariant-loop-i : goal.invariant-loop-i
invariant-loop-i l = (l.i ≤ 16) × (l.set ≡ map (λ grant. l.number <? grant) (take l.i l.grants) ++ replicate (16 - l.i) false)

abbrev pub decreases-loop-i : goal.decreases-loop-i
decreases-loop-i l = 16 - l.i
