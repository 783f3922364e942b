-- After i turns the first i words are there.
use Prim.Native.Nat.{ℕ, ◌-◌, ◌*◌, ◌/◌, ◌<◌}
use native.Mathlib.Omega.{arith}
use mathlib.Core.Path.{◌≡◌, refl, ap, ◌∙◌}
use mathlib.Core.List.{List, [], append-nil}
use lib.ListN.{length, take, drop, get_or}
use Rattle.std.specs.Int.{w64, from_le_bytes}
use Rattle.firmware_rules.specs.Bytes.{word_of, words_at}
use Rattle.record_bytes.proofs.LowFirst.{word_low_first, chunk_at, filled_next}
use Rattle.record_bytes.proofs.words_at.Goals as goal

pub loop-i-init : goal.loop-i-init
unfolding words_at
loop-i-init g c =
    let none : g.row.N - 0 ≡ g.row.N = omega arith in
    rw none refl

pub loop-i-preserved : goal.loop-i-preserved
loop-i-preserved g c =
    let b = c.args.b.now in
    let i = c.loop-i.i in
    let inside : i < length b / 8 = omega (arith, c.requires, c.loop-i-test.true) in
    let chunk : get_or c.as_chunks.result.0.now i [] ≡ take 8 (drop (8 * i) b) =
    ap (λ (chunks : List (List ℕ)). get_or chunks i []) c.as_chunks.ensures.front ∙ chunk_at (length b / 8) i b inside in
    let read : c.from_le_bytes.result ≡ word_of (take 8 (drop (8 * i) b)) =
    c.from_le_bytes.ensures ∙ ap (from_le_bytes w64) chunk ∙ word_low_first b i inside in
    rw read (filled_next g.row.N i b c.loop-i.word-items c.loop-i-test.true c.loop-i.invariant)

pub returns : goal.returns
returns g c =
    let all : c.loop-i.i ≡ g.row.N = omega (arith, c.loop-i.auto.i-end, c.loop-i-test.false) in
    let none : g.row.N - g.row.N ≡ 0 = omega arith in
    c.loop-i.invariant ∙ rw (all, none) (append-nil (words_at g.row.N c.args.b.now))
