-- The digits of a tenth of n are written by the call of itself, and the last one behind them.
use Prim.Native.Nat.{◌+◌, ◌/◌, ◌%◌, ◌<◌}
use native.Mathlib.Omega.{arith}
use mathlib.Core.Path.{refl, ap}
use lib.ListN.{length}
use Rattle.decimals.specs.Decimals.{digits}
use Rattle.decimals.proofs.Digits.{digits_one, digits_more, count_more}
use Rattle.fields.proofs.Rooms.{put_first, put_next}
use Rattle.decimals.proofs.+write_digits.Goals as goal

pub bounds-out-0 : goal.bounds-out-0
bounds-out-0 t c =
    let e = ap length (digits_one c.args.n c.if-n-lt10.true) in
    omega arith

pub returns-then-n-lt10 : goal.returns-then-n-lt10
returns-then-n-lt10 t c =
    let e = digits_one c.args.n c.if-n-lt10.true in
    let room : 0 < length c.args.out.now = omega (arith, ap length e) in
    rw e (refl, put_first c.args.out.now (48 + c.args.n) room)

pub write_digits-count-requires : goal.write_digits-count-requires
write_digits-count-requires t c =
    let e = count_more c.args.n c.if-n-lt10.false c.ranges.n.fits in
    (omega arith, omega arith)

pub bounds-out-count : goal.bounds-out-count
bounds-out-count t c =
    let e = count_more c.args.n c.if-n-lt10.false c.ranges.n.fits in
    omega arith

pub returns : goal.returns
returns t c =
    let e = count_more c.args.n c.if-n-lt10.false c.ranges.n.fits in
    let f = digits_more c.args.n c.if-n-lt10.false c.ranges.n.fits in
    let room : length (digits (c.args.n / 10)) < length c.args.out.now = omega arith in (
      omega arith,
      rw (c.write_digits-count.ensures.1, c.write_digits-count.ensures.0, e, f)
          (put_next (digits (c.args.n / 10)) c.args.out.now (48 + c.args.n % 10) room),
    )
