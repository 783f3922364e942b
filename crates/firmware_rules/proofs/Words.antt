-- Words of 8 bytes: their bytes one by one, the words one after another, and the round trips. Assumes nothing.
use Prim.Native.Nat.{ℕ, zero, suc, ◌+◌, ◌-◌, ◌*◌, ◌/◌, ◌≤◌, ◌<◌}
use native.Mathlib.Numerals.{add-one}
use native.Mathlib.Nat.{zero-add, suc-add, not-suc-le-zero, le_of_suc-le-suc}
use native.Mathlib.Omega.{arith}
use mathlib.Core.Path.{◌≡◌, refl, sym, ap, ◌∙◌}
use mathlib.Core.List.{List, [], ◌∷◌, ◌++◌, append_assoc, append-nil}
use lib.ListN.{length, take, drop, get_or, set, replicate, length-append, drop_of_length-le}
use lib.Seq.{drop-cons, drop-drop, length-take-le, set_at, take-suc}
use Rattle.fields.specs.Places.{put_at}
use Rattle.fields.proofs.Rooms.{put_fits, put_more}
use Rattle.firmware_rules.specs.Bytes.{word_of, bytes_in, words_at, bytes_of}

-- one byte of a part
byte_more : (b : List ℕ) (at k : ℕ) → at < length b → take (suc k) (drop at b) ≡ get_or b at 0 ∷ take k (drop (at + 1) b)
byte_more b at k h = rw (drop-cons b at 0 h, add-one at) refl

word_more : (b : List ℕ) (at k : ℕ) → at < length b
    → word_of (take (suc k) (drop at b)) ≡ get_or b at 0 + 256 * word_of (take k (drop (at + 1) b))
unfolding word_of
word_more b at k h = rw (byte_more b at k h) refl

-- the same, i bytes behind `at`
word_at_more : (b : List ℕ) (at i k : ℕ) → at + i < length b
    → word_of (take (suc k) (drop (at + i) b)) ≡ get_or b (at + i) 0 + 256 * word_of (take k (drop (at + suc i) b))
word_at_more b at i k h =
    let next : at + i + 1 ≡ at + suc i = omega arith in
    word_more b (at + i) k h ∙ ap (λ (j : ℕ). get_or b (at + i) 0 + 256 * word_of (take k (drop j b))) next

-- the eight bytes of a word
abbrev byte : List ℕ → (at i rest : ℕ) → ℕ
byte b at i rest = get_or b (at + i) 0 + 256 * rest

pub word_bytes : (b : List ℕ) (at : ℕ) → at + 8 ≤ length b
    → word_of (take 8 (drop at b)) ≡ get_or b at 0 + 256 * byte b at 1
    (byte b at 2 (byte b at 3 (byte b at 4 (byte b at 5 (byte b at 6 (byte b at 7 0))))))
unfolding word_of
word_bytes b at h =
    word_more b at 7 (omega arith)
    ∙ ap (λ (rest : ℕ). get_or b at 0 + 256 * rest) (word_at_more b at 1 6 (omega arith)
    ∙ ap (byte b at 1) (word_at_more b at 2 5 (omega arith)
    ∙ ap (byte b at 2) (word_at_more b at 3 4 (omega arith)
    ∙ ap (byte b at 3) (word_at_more b at 4 3 (omega arith)
    ∙ ap (byte b at 4) (word_at_more b at 5 2 (omega arith)
    ∙ ap (byte b at 5) (word_at_more b at 6 1 (omega arith)
    ∙ ap (byte b at 6) (word_at_more b at 7 0 (omega arith))))))))

-- ---- words one after another

pub words_length : (count : ℕ) (b : List ℕ) → length (words_at count b) ≡ count
unfolding words_at
words_length zero b = refl
words_length (suc count) b = ap suc (words_length count (drop 8 b))

pub words_more : (count : ℕ) (b : List ℕ) → words_at (suc count) b ≡ words_at count b ++ (word_of (take 8 (drop (8 * count) b)) ∷ [])
unfolding words_at
words_more zero b = refl
words_more (suc count) b =
    let e : drop (8 * count) (drop 8 b) ≡ drop (8 * suc count) b =
    drop-drop (8 * count) 8 b ∙ ap (λ (k : ℕ). drop k b) (eights count) in
    ap (λ (ws : List ℕ). word_of (take 8 b) ∷ ws)
    (words_more count (drop 8 b) ∙ ap (λ (part : List ℕ). words_at count (drop 8 b) ++ (word_of (take 8 part) ∷ [])) e)
  where
    eights : (count : ℕ) → 8 + 8 * count ≡ 8 * suc count
    eights count = omega arith

-- a place of an array that is filled from the front
pub fill_next : (places i : ℕ) (ws : List ℕ) (w : ℕ) → length ws ≡ i → i < places
    → set (ws ++ replicate (places - i) 0) i w ≡ (ws ++ (w ∷ [])) ++ replicate (places - (i + 1)) 0
fill_next places i ws w l h =
    let e : places - i ≡ suc (places - (i + 1)) = omega arith in
    rw (e) (set_at ws 0 (replicate (places - (i + 1)) 0) w i l ∙ sym (append_assoc ws (w ∷ []) (replicate (places - (i + 1)) 0)))

-- the words behind the first k, the first k, and the k-th
pub words_drop : (k count : ℕ) (b : List ℕ) → drop k (words_at (k + count) b) ≡ words_at count (drop (8 * k) b)
unfolding words_at
words_drop zero count b = rw (zero-add count) refl
words_drop (suc k) count b =
    let e : 8 + 8 * k ≡ 8 * suc k = omega arith in
    rw (suc-add k count) (words_drop k count (drop 8 b) ∙ ap (words_at count) (drop-drop (8 * k) 8 b ∙ ap (λ (j : ℕ). drop j b) e))

pub words_take : (k count : ℕ) (b : List ℕ) → take k (words_at (k + count) b) ≡ words_at k b
unfolding words_at
words_take zero count b = refl
words_take (suc k) count b = rw (suc-add k count) (ap (λ (ws : List ℕ). word_of (take 8 b) ∷ ws) (words_take k count (drop 8 b)))

pub words_at_lem : (k count : ℕ) (b : List ℕ) → k < count → get_or (words_at count b) k 0 ≡ word_of (take 8 (drop (8 * k) b))
unfolding words_at
words_at_lem k zero b h = absurd (not-suc-le-zero h)
words_at_lem zero (suc count) b h = refl
words_at_lem (suc k) (suc count) b h =
    let e : 8 + 8 * k ≡ 8 * suc k = omega arith in
    words_at_lem k count (drop 8 b) (le_of_suc-le-suc h) ∙ ap (λ (part : List ℕ). word_of (take 8 part))
    (drop-drop (8 * k) 8 b ∙ ap (λ (j : ℕ). drop j b) e)

-- ---- bytes of words

pub bytes_length : (count w : ℕ) → length (bytes_in count w) ≡ count
unfolding bytes_in
bytes_length zero w = refl
bytes_length (suc count) w = ap suc (bytes_length count (w / 256))

pub words_bytes_length : (ws : List ℕ) → length (bytes_of ws) ≡ 8 * length ws
unfolding bytes_of
words_bytes_length [] = refl
words_bytes_length (w ∷ ws) =
    length-append (bytes_in 8 w) (bytes_of ws) ∙ rw (bytes_length 8 w, words_bytes_length ws) (omega arith)

pub bytes_append : (ws vs : List ℕ) → bytes_of (ws ++ vs) ≡ bytes_of ws ++ bytes_of vs
unfolding bytes_of
bytes_append [] vs = refl
bytes_append (w ∷ ws) vs =
    ap (λ (l : List ℕ). bytes_in 8 w ++ l) (bytes_append ws vs) ∙ sym (append_assoc (bytes_in 8 w) (bytes_of ws) (bytes_of vs))

-- words put one behind another
pub puts_next : (room : List ℕ) (at i : ℕ) (ws : List ℕ) → i < length ws → at + 8 * length ws ≤ length room
    → put_at (put_at room at (bytes_of (take i ws))) (at + 8 * i) (bytes_in 8 (get_or ws i 0)) ≡ put_at room
    at (bytes_of (take (i + 1) ws))
unfolding bytes_of
puts_next room at i ws h fits =
    let done = bytes_of (take i ws) in
    let next = bytes_in 8 (get_or ws i 0) in
    let long : length done ≡ 8 * i = words_bytes_length (take i ws) ∙ ap (λ (k : ℕ). 8 * k) (length-take-le i ws (omega arith)) in
    let more : bytes_of (take (i + 1) ws) ≡ done ++ next
    = rw (add-one i) (ap bytes_of (take-suc ws i 0 h) ∙ bytes_append (take i ws) (get_or ws i 0 ∷ []) ∙ ap
    (λ (l : List ℕ). done ++ l) (append-nil next)) in
    rw (more, ← long) (put_more room at done next (omega (arith, long, bytes_length 8 (get_or ws i 0))))

-- ---- a whole record

put_step : (b done bytes : List ℕ) (at : ℕ) → length done ≡ at → at + length bytes ≤ length b
    → put_at (put_at b 0 done) at bytes ≡ put_at b 0 (done ++ bytes)
put_step b done bytes at e h =
    ap (λ (k : ℕ). put_at (put_at b 0 done) k bytes) (sym (zero-add (length done) ∙ e)) ∙ put_more b 0 done bytes (omega (arith, e))

put_whole : (b bytes : List ℕ) → length bytes ≡ length b → put_at b 0 bytes ≡ bytes
put_whole b bytes e =
    put_fits b 0 bytes (omega (arith, e)) ∙ rw (drop_of_length-le b {i = 0 + length bytes} (omega (arith, e))) (append-nil bytes)

pub parts_put : (b front sends grants : List ℕ) → length b ≡ 680 → length front ≡ 5 → length sends ≡ 64 → length grants ≡ 16
    → put_at (put_at (put_at b 0 (bytes_of front)) 40 (bytes_of sends)) 552 (bytes_of grants)
    ≡ bytes_of (front ++ (sends ++ grants))
parts_put b front sends grants size five many few =
    let one = bytes_of front in
    let two = one ++ bytes_of sends in
    let all = two ++ bytes_of grants in
    let long_one : length one ≡ 40 = words_bytes_length front ∙ rw five refl in
    let long_sends : length (bytes_of sends) ≡ 512 = words_bytes_length sends ∙ rw many refl in
    let long_grants : length (bytes_of grants) ≡ 128 = words_bytes_length grants ∙ rw few refl in
    let long_two : length two ≡ 552 = length-append one _ ∙ rw (long_one, long_sends) refl in
    let whole : length all ≡ length b = length-append two _ ∙ rw (long_two, long_grants, size) refl in
    rw (
      put_step b one (bytes_of sends) 40 long_one (omega (arith, long_sends, size)),
      put_step b two (bytes_of grants) 552 long_two (omega (arith, long_grants, size)),
      put_whole b all whole,
      bytes_append front (sends ++ grants),
      bytes_append sends grants,
    )
    (append_assoc one (bytes_of sends) (bytes_of grants))
