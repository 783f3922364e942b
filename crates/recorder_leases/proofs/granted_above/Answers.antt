-- `recorder_leases::granted_above` meets its contract. The loop's invariant: the marks of the observers passed are set, the
-- rest are not.
use Prim.Native.Nat.{suc, ◌+◌, ◌-◌}
use native.Mathlib.Omega.{arith}
use mathlib.Core.Path.{◌≡◌, refl, ◌∙◌}
use mathlib.Core.Bool.{false}
use mathlib.Core.List.{map, append-nil}
use lib.Seq.{take_all}
use Rattle.words.specs.Tests.{◌<?◌}
use Rattle.words.proofs.Gathered.{map_more}
use Rattle.recorder_leases.proofs.granted_above.Goals as goal

pub loop-i-init : goal.loop-i-init
loop-i-init c = (omega arith, refl)

pub loop-i-preserved : goal.loop-i-preserved
loop-i-preserved c =
    let l = c.before in
    let a = l.before.args in
    let left : 16 - l.loop-i.i ≡ suc (16 - (l.loop-i.i + 1)) = omega arith in (
      omega arith,
      rw (l.loop-i.invariant.1, left)
          (map_more (λ grant. a.number <? grant) 0 false a.grants l.loop-i.i (16 - (l.loop-i.i + 1)) (omega arith)),
    )

pub returns : goal.returns
returns c =
    let l = c.before in
    let a = l.before.args in
    let none : 16 - l.loop-i.i ≡ 0 = omega arith in
    l.loop-i.invariant.1 ∙ rw (none, take_all l.loop-i.i a.grants (omega arith))
    (append-nil (map (λ grant. a.number <? grant) a.grants))
