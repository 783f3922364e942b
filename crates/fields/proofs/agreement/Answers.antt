-- The loop has passed i bytes that agree: what the two have in common is i and what they have in common from there on.
use native.Mathlib.Omega.{arith}
use lib.ListN.{drop, drop_of_length-le}
use borrow.Author.Tests.{eq-eqb, ne_eqb}
use Rattle.fields.proofs.Rooms.{agree_next, agree_end, agree_none}
use Rattle.fields.proofs.agreement.Goals as goal

pub returns-then-word-i : goal.returns-then-word-i
returns-then-word-i c =
    omega (arith, c.loop-i.invariant, agree_end c.args.s.now c.args.word.now c.loop-i.i c.if-word-i.true)

pub returns-then-byte-letter : goal.returns-then-byte-letter
returns-then-byte-letter c =
    let e = agree_next c.args.s.now c.args.word.now c.loop-i.i (omega arith) (omega arith) in
    omega (arith, c.loop-i.invariant, rw (ne_eqb _ _ c.if-byte-letter.true) at e)

pub loop-i-preserved : goal.loop-i-preserved
loop-i-preserved c =
    let e = agree_next c.args.s.now c.args.word.now c.loop-i.i (omega arith) (omega arith) in
    omega (arith, c.loop-i.invariant, rw (eq-eqb _ _ c.if-byte-letter.false) at e)

pub returns : goal.returns
returns c =
    let e = drop_of_length-le c.args.s.now {i = c.loop-i.i} (omega arith) in
    let f = rw (e, agree_none (drop c.loop-i.i c.args.word.now)) at c.loop-i.invariant in
    omega arith
