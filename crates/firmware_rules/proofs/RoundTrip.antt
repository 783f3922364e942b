-- Bytes to words and back, words to a record and back. Assumes nothing.
use Prim.Native.Nat.{ℕ, zero, suc, ◌+◌, ◌*◌, ◌/◌, ◌%◌, ◌^◌, ◌<◌}
use native.Mathlib.Nat.{pow-suc, div-lt_iff_lt-mul}
use native.Mathlib.Omega.{arith}
use mathlib.Core.Path.{◌≡◌, refl, sym, ap, ap₂, ◌∙◌}
use mathlib.Core.Bool.{Bool, true}
use mathlib.Core.List.{List, [], ◌∷◌, ◌++◌}
use lib.ListN.{length, take, drop, length-append, length-drop, take-append-drop}
use lib.Seq.{length-take-le, take-append_seam, drop-append_seam}
use borrow.Author.Tests.{ltb-true}
use Rattle.words.specs.Lists.{every}
use Rattle.words.proofs.Booleans.{both_hold}
use Rattle.words.proofs.Walks.{every_drop}
use Rattle.recorder_rules.specs.declared.Recorder.{Recorder}
use Rattle.recorder_rules.specs.Claims.{Sized}
use Rattle.firmware_rules.specs.Bytes.{word_of, bytes_in, words_at, bytes_of, numbers_of, record_of, decoded, encoded}
use Rattle.firmware_rules.specs.Claims.{is_byte, is_word, BytesComeBack, RecordComesBack}
use Rattle.firmware_rules.proofs.Words.{bytes_length, words_length}

-- ---- one word

low : (byte rest : ℕ) → byte < 256 → (byte + 256 * rest) % 256 ≡ byte
low byte rest h = omega arith

high : (byte rest : ℕ) → byte < 256 → (byte + 256 * rest) / 256 ≡ rest
high byte rest h = omega arith

bytes_back : (bytes : List ℕ) → every is_byte bytes ≡ true → bytes_in (length bytes) (word_of bytes) ≡ bytes
unfolding bytes_in word_of
bytes_back [] e = refl
bytes_back (byte ∷ bytes) e =
    let p = both_hold (is_byte byte) (every is_byte bytes) e in
    let h = ltb-true byte 256 p.0 in
    rw (low byte (word_of bytes) h, high byte (word_of bytes) h, bytes_back bytes p.1) refl

word_back : (count w : ℕ) → w < 256 ^ count → word_of (bytes_in count w) ≡ w
unfolding bytes_in word_of
word_back zero w h = omega arith
word_back (suc count) w h =
    let less : w / 256 < 256 ^ count =
    (div-lt_iff_lt-mul {k = 256} {x = w} {y = 256 ^ count} (omega arith)).1 (rw (pow-suc 256 count) at h) in
    rw (word_back count (w / 256) less) (omega arith)

-- ---- many words

every_take : (test : ℕ → Bool) (k : ℕ) (xs : List ℕ) → every test xs ≡ true → every test (take k xs) ≡ true
every_take test zero xs e = refl
every_take test (suc k) [] e = refl
every_take test (suc k) (x ∷ xs) e = let p = both_hold (test x) (every test xs) e in rw p.0 (every_take test k xs p.1)

all_bytes_back : (count : ℕ) (bytes : List ℕ) → length bytes ≡ 8 * count → every is_byte bytes ≡ true
    → bytes_of (words_at count bytes) ≡ bytes
unfolding bytes_of words_at
all_bytes_back zero [] l e = refl
all_bytes_back zero (byte ∷ bytes) l e = absurd (let z : ⊥ = omega arith in z)
all_bytes_back (suc count) bytes l e =
    let front : length (take 8 bytes) ≡ 8 = length-take-le 8 bytes (omega (arith, l)) in
    let one : bytes_in 8 (word_of (take 8 bytes)) ≡ take 8 bytes
    = ap (λ (k : ℕ). bytes_in k (word_of (take 8 bytes))) (sym front) ∙ bytes_back (take 8 bytes) (every_take is_byte 8 bytes e) in
    let rest = all_bytes_back count (drop 8 bytes) (length-drop 8 bytes ∙ omega (arith, l)) (every_drop is_byte 8 bytes e) in
    ap₂ (λ (x y : List ℕ). x ++ y) one rest ∙ take-append-drop 8 bytes

all_words_back : (ws : List ℕ) → every is_word ws ≡ true → words_at (length ws) (bytes_of ws) ≡ ws
unfolding bytes_of words_at
all_words_back [] e = refl
all_words_back (w ∷ ws) e =
    let p = both_hold (is_word w) (every is_word ws) e in
    let eight = bytes_length 8 w in
    let front : take 8 (bytes_in 8 w ++ bytes_of ws) ≡ bytes_in 8 w =
    ap (λ (k : ℕ). take k (bytes_in 8 w ++ bytes_of ws)) (sym eight) ∙ take-append_seam (bytes_in 8 w) (bytes_of ws) in
    let back : drop 8 (bytes_in 8 w ++ bytes_of ws) ≡ bytes_of ws =
    ap (λ (k : ℕ). drop k (bytes_in 8 w ++ bytes_of ws)) (sym eight) ∙ drop-append_seam (bytes_in 8 w) (bytes_of ws) in
    rw (front, back, word_back 8 w (ltb-true w (2 ^ 64) p.0), all_words_back ws p.1) refl

-- ---- the record

numbers_back : (ws : List ℕ) → length ws ≡ 85 → numbers_of (record_of ws) ≡ ws
numbers_back (a ∷ (b ∷ (c ∷ (d ∷ (e ∷ rest))))) l =
    ap (λ (ws : List ℕ). a ∷ (b ∷ (c ∷ (d ∷ (e ∷ ws))))) (take-append-drop 64 rest)
numbers_back [] l = absurd (let z : ⊥ = omega arith in z)
numbers_back (a ∷ []) l = absurd (let z : ⊥ = omega arith in z)
numbers_back (a ∷ (b ∷ [])) l = absurd (let z : ⊥ = omega arith in z)
numbers_back (a ∷ (b ∷ (c ∷ []))) l = absurd (let z : ⊥ = omega arith in z)
numbers_back (a ∷ (b ∷ (c ∷ (d ∷ [])))) l = absurd (let z : ⊥ = omega arith in z)

record_back : (rec : Recorder) → Sized rec → record_of (numbers_of rec) ≡ rec
record_back rec full =
    let sends : take 64 (rec.sends ++ rec.grants) ≡ rec.sends
    = ap (λ (k : ℕ). take k (rec.sends ++ rec.grants)) (sym full.sends) ∙ take-append_seam rec.sends rec.grants in
    let grants : drop 64 (rec.sends ++ rec.grants) ≡ rec.grants
    = ap (λ (k : ℕ). drop k (rec.sends ++ rec.grants)) (sym full.sends) ∙ drop-append_seam rec.sends rec.grants in
    rw (sends, grants) refl

pub bytes_come_back_lem : BytesComeBack
unfolding encoded decoded
bytes_come_back_lem bytes size e = rw (numbers_back (words_at 85 bytes) (words_length 85 bytes)) (all_bytes_back 85 bytes size e)

pub record_comes_back_lem : RecordComesBack
unfolding encoded decoded
record_comes_back_lem rec full e =
    let eighty : length (rec.sends ++ rec.grants) ≡ 80 =
    length-append rec.sends rec.grants ∙ rw (full.sends, full.grants) refl in
    let count : length (numbers_of rec) ≡ 85 = omega (arith, eighty) in
    let words : words_at 85 (bytes_of (numbers_of rec)) ≡ numbers_of rec =
    ap (λ (k : ℕ). words_at k (bytes_of (numbers_of rec))) (sym count) ∙ all_words_back (numbers_of rec) e in
    rw words (record_back rec full)
