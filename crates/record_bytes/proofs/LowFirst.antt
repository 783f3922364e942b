-- The library's bytes of a word, the low one first, are the rule's.
use Prim.Native.Nat.{ℕ, zero, suc, ◌+◌, ◌-◌, ◌*◌, ◌/◌, ◌<◌}
use native.Mathlib.Numerals.{add-one}
use native.Mathlib.Nat.{not-suc-le-zero, le_of_suc-le-suc}
use native.Mathlib.Omega.{arith}
use mathlib.Core.Path.{◌≡◌, refl, sym, ap, ◌∙◌}
use mathlib.Core.List.{List, [], ◌∷◌, ◌++◌}
use lib.ListN.{length, take, drop, get_or, set, replicate, length-drop}
use lib.Seq.{take_all, drop-drop, length-take-le}
use Rattle.std.specs.Int.{w64, from_le_bytes, to_le_bytes}
use Rattle.std.specs.Simd.{first_chunks}
use Rattle.firmware_rules.specs.Bytes.{word_of, bytes_in, words_at}
use Rattle.firmware_rules.proofs.Words.{word_bytes, words_length, words_more, fill_next}

pub word_low_first : (b : List ℕ) (i : ℕ) → i < length b / 8
    → from_le_bytes w64 (take 8 (drop (8 * i) b)) ≡ word_of (take 8 (drop (8 * i) b))
word_low_first b i h =
    let bytes = take 8 (drop (8 * i) b) in
    let eight : length bytes ≡ 8 = length-take-le 8 (drop (8 * i) b) (rw (length-drop (8 * i) b) (omega arith)) in
    let whole : take 8 bytes ≡ bytes = take_all 8 bytes (omega (arith, eight)) in
    let e = word_bytes bytes 0 (omega (arith, eight)) in
    omega (arith, ap word_of whole, e)

pub bytes_low_first : (w : ℕ) → to_le_bytes w64 w ≡ bytes_in 8 w
unfolding bytes_in
bytes_low_first w =
    let e2 : w / 256 / 256 ≡ w / 65536 = omega arith in
    let e3 : w / 65536 / 256 ≡ w / 16777216 = omega arith in
    let e4 : w / 16777216 / 256 ≡ w / 4294967296 = omega arith in
    let e5 : w / 4294967296 / 256 ≡ w / 1099511627776 = omega arith in
    let e6 : w / 1099511627776 / 256 ≡ w / 281474976710656 = omega arith in
    let e7 : w / 281474976710656 / 256 ≡ w / 72057594037927936 = omega arith in
    rw (e2, e3, e4, e5, e6, e7) refl

-- a chunk of eight bytes is the part where it stands
pub chunk_at : (count i : ℕ) (b : List ℕ) → i < count → get_or (first_chunks 8 count b) i [] ≡ take 8 (drop (8 * i) b)
chunk_at zero i b h = absurd (not-suc-le-zero h)
chunk_at (suc count) zero b h = refl
chunk_at (suc count) (suc i) b h =
    let next : 8 + 8 * i ≡ 8 * suc i = omega arith in
    chunk_at count i (drop 8 b) (le_of_suc-le-suc h) ∙ ap (take 8) (drop-drop (8 * i) 8 b ∙ ap (λ (k : ℕ). drop k b) next)

-- one word more of an array that is filled from the front
pub filled_next : (places i : ℕ) (b ws : List ℕ) → i < places → ws ≡ words_at i b ++ replicate (places - i) 0
    → set ws i (word_of (take 8 (drop (8 * i) b))) ≡ words_at (i + 1) b ++ replicate (places - (i + 1)) 0
filled_next places i b ws h e =
    let w = word_of (take 8 (drop (8 * i) b)) in
    let more : words_at i b ++ (w ∷ []) ≡ words_at (i + 1) b = rw (add-one i) (sym (words_more i b)) in
    rw e (fill_next places i (words_at i b) w (words_length i b) h ∙ ap (λ (vs : List ℕ). vs ++ replicate (places - (i + 1)) 0) more)
