-- Laws of room that is written to, and of words at the front.
use Rattle.std.specs.Prelude.{if◌then◌else◌}
use Prim.Native.Nat.{ℕ, zero, suc, ◌+◌, ◌-◌, ◌≤◌, ◌<◌}
use native.Mathlib.Nat.{not-suc-le-zero, le_of_suc-le-suc, le_refl}
use native.Mathlib.Numerals.{add-one}
use native.Mathlib.Omega.{arith}
use mathlib.Core.Path.{◌≡◌, refl, sym, ap, ap₂, ◌∙◌}
use mathlib.Core.Bool.{Bool, true, false, ◌&&◌, and_assoc}
use lib.Dec.{eqb-zero-suc, eqb-suc-zero, eqb-suc-suc}
use lib.Pointwise.{pointwise}
use Rattle.std.specs.Prelude.{None, Some}
use mathlib.Core.List.{List, [], ◌∷◌, ◌++◌, append_assoc, append-nil}
use lib.ListN.{length, take, drop, get_or, set, length-append, length-take, length-drop, drop_of_length-le}
use borrow.Rule.Slice.PartMut.{put_mid}
use lib.Seq.{drop-cons, set-append_seam, length-take-le, paste-zero, take_all, take-append_seam, drop-append-add, drop-drop}
use borrow.Author.Tests.{le-leb, lt-leb, leb-true, eqb-true}
use Rattle.std.proofs.lemmas.Slice.{take-put_mid_below, drop-put_mid}
use Rattle.words.specs.Tests.{◌≤?◌, ◌=?◌}
use Rattle.fields.specs.Places.{put_at, next_place, agree, begins, behind, is_exactly}

-- the part of a slice from n on, as code makes it
pub part_from_lem {ℓ} : {A : Type ℓ} (n : ℕ) (xs : List A) → take (length xs - n) (drop n xs) ≡ drop n xs
part_from_lem n xs = take_all (length xs - n) (drop n xs) (rw (length-drop n xs) (omega arith))

pub put_first : (l : List ℕ) (d : ℕ) → 0 < length l → set l 0 d ≡ d ∷ drop 1 l
put_first [] d h = absurd (not-suc-le-zero h)
put_first (x ∷ l) d h = refl

pub put_next : (ds l : List ℕ) (d : ℕ) → length ds < length l
    → set (ds ++ drop (length ds) l) (length ds) d ≡ (ds ++ (d ∷ [])) ++ drop (length ds + 1) l
put_next ds l d h =
    rw (
      drop-cons l (length ds) 0 h,
      set-append_seam ds (get_or l (length ds) 0) (drop (suc (length ds)) l) d,
      add-one (length ds),
      append_assoc,
    )

-- bytes that fit
pub put_fits : (room : List ℕ) (at : ℕ) (bytes : List ℕ) → at + length bytes ≤ length room
    → put_at room at bytes ≡ take at room ++ bytes ++ drop (at + length bytes) room
unfolding put_at
put_fits room at bytes h = rw (le-leb (at + length bytes) (length room) h)

pub next_fits : (room : List ℕ) (at : ℕ) (bytes : List ℕ) → at + length bytes ≤ length room
    → next_place room at bytes ≡ at + length bytes
unfolding next_place
next_fits room at bytes h = rw (le-leb (at + length bytes) (length room) h)

-- and bytes that do not
pub put_not : (room : List ℕ) (at : ℕ) (bytes : List ℕ) → length room < at + length bytes → put_at room at bytes ≡ room
unfolding put_at
put_not room at bytes h = rw (lt-leb (at + length bytes) (length room) h)

pub next_not : (room : List ℕ) (at : ℕ) (bytes : List ℕ) → length room < at + length bytes → next_place room at bytes ≡ at
unfolding next_place
next_not room at bytes h = rw (lt-leb (at + length bytes) (length room) h)

pub length_put : (room : List ℕ) (at : ℕ) (bytes : List ℕ) → length (put_at room at bytes) ≡ length room
unfolding put_at
length_put room at bytes = by (at + length bytes ≤? length room) refl
  where
    by : (b : Bool) → at + length bytes ≤? length room ≡ b
        → length (if b then take at room ++ bytes ++ drop (at + length bytes) room else room) ≡ length room
    by true e =
        let h = leb-true (at + length bytes) (length room) e in
        simp (length-append, length-take, length-drop) (omega arith)
    by false e = refl

-- what has been written so far grows by the bytes that are put behind it
pub put_behind : (done room bytes : List ℕ) → length done + length bytes ≤ length room
    → put_at (done ++ drop (length done) room) (length done) bytes ≡ (done ++ bytes) ++ drop (length done + length bytes) room
put_behind done room bytes h =
    put_fits (done ++ drop (length done) room) (length done) bytes (simp (length-append, length-drop) (omega arith))
    ∙ rw (
      take-append_seam done (drop (length done) room),
      drop-append-add done (drop (length done) room) (length bytes),
      drop-drop (length bytes) (length done) room,
    )

-- nothing put changes nothing, and bytes behind bytes are bytes put at once
pub put_nothing : (room : List ℕ) (at : ℕ) → at ≤ length room → room ≡ put_at room at []
put_nothing room at h = paste-zero room at [] ∙ sym (put_fits room at [] (omega arith))

pub put_more : (room : List ℕ) (at : ℕ) (done bytes : List ℕ) → at + length done + length bytes ≤ length room
    → put_at (put_at room at done) (at + length done) bytes ≡ put_at room at (done ++ bytes)
put_more room at done bytes h =
    let front = take at room ++ done in
    let size : length front ≡ at + length done =
    length-append (take at room) done ∙ ap (λ (k : ℕ). k + length done) (length-take-le at room (omega arith)) in
    let both : length front + length bytes ≡ at + length (done ++ bytes) = rw (length-append done bytes) (omega (arith, size)) in
    let held : put_at room at done ≡ front ++ drop (length front) room =
    put_fits room at done (omega arith) ∙ ap (λ (k : ℕ). front ++ drop k room) (sym size) in
    let last : put_at room at (done ++ bytes) ≡ take at room ++ (done ++ bytes) ++ drop (at + length (done ++ bytes)) room
    = put_fits room at (done ++ bytes) (omega (arith, both, size)) in
    ap₂ (λ (l : List ℕ) (k : ℕ). put_at l k bytes) held (sym size)
    ∙ put_behind front room bytes (omega (arith, size))
    ∙ ap₂ (λ (l : List ℕ) (k : ℕ). l ++ drop k room) (append_assoc (take at room) done bytes) both
    ∙ sym last

-- ---- words at the front

-- no bytes agree, or one more
agree_by : (b : Bool) (k n : ℕ) → ((if b then suc k else 0) =? suc n) ≡ (b && (k =? n))
agree_by true k n = eqb-suc-suc k n
agree_by false k n = eqb-zero-suc n

-- one byte of agreement
pub agree_next : (s word : List ℕ) (i : ℕ) → i < length s → i < length word
    → agree (drop i s) (drop i word)
    ≡ (if get_or s i 0 =? get_or word i 0 then suc (agree (drop (i + 1) s) (drop (i + 1) word)) else 0)
unfolding agree
agree_next [] word i h k = absurd (not-suc-le-zero h)
agree_next (x ∷ s) [] i h k = absurd (not-suc-le-zero k)
agree_next (x ∷ s) (y ∷ word) zero h k = refl
agree_next (x ∷ s) (y ∷ word) (suc i) h k =
    rw (add-one (suc i)) (rw (add-one i) at (agree_next s word i (le_of_suc-le-suc h) (le_of_suc-le-suc k)))

-- no more of it where either has ended
pub agree_end : (s word : List ℕ) (i : ℕ) → length word ≤ i → agree (drop i s) (drop i word) ≡ 0
unfolding agree
agree_end s word i h = rw (drop_of_length-le word {i = i} h)

pub agree_none : (word : List ℕ) → agree [] word ≡ 0
unfolding agree
agree_none [] = refl
agree_none (letter ∷ letters) = refl

-- a word that agrees whole stands at the front
pub agree_front : (s word : List ℕ) → agree s word ≡ length word → s ≡ word ++ drop (length word) s
unfolding agree
agree_front s [] e = refl
agree_front [] (letter ∷ letters) e = absurd (let z : ⊥ = omega arith in z)
agree_front (byte ∷ bytes) (letter ∷ letters) e = by (byte =? letter) refl e (agree_front bytes letters)
  where
    by : (b : Bool) → (byte =? letter) ≡ b → (if b then suc (agree bytes letters) else 0) ≡ suc (length letters)
        → (agree bytes letters ≡ length letters → bytes ≡ letters ++ drop (length letters) bytes)
        → byte ∷ bytes ≡ letter ∷ (letters ++ drop (length letters) bytes)
    by true p e f = ap₂ ◌∷◌ (eqb-true byte letter p) (f (omega arith))
    by false p e f = absurd (let z : ⊥ = omega arith in z)

pub front : (word s : List ℕ) → begins word s ≡ true → s ≡ word ++ drop (length word) s
unfolding begins
front word s e = agree_front s word (eqb-true (agree s word) (length word) e)

-- a room `l` in which `done` has been written from the front, `at` being the next place
pub record Put (done room l : List ℕ) (at : ℕ) : Type 0 where
  pub holds : l ≡ done ++ drop (length done) room
  pub place : at ≡ length done

pub put_none : (room : List ℕ) → Put [] room room 0
put_none room = record { holds = refl; place = refl }

pub put_then : (done room bytes : List ℕ) {l l' : List ℕ} {at at' : ℕ} → Put done room l at
    → length done + length bytes ≤ length room
    → at' ≡ next_place l at bytes → l' ≡ put_at l at bytes → Put (done ++ bytes) room l' at'
put_then done room bytes p h e f =
    let fits =
    next_fits (done ++ drop (length done) room) (length done) bytes (simp (length-append, length-drop) (omega arith)) in
    record {
      holds = rw (length-append done bytes) (f ∙ rw (p.place, p.holds) (put_behind done room bytes h));
      place = e ∙ rw (p.place, p.holds) (fits ∙ sym (length-append done bytes));
    }

-- what a call that writes bytes at the front of the part from `at` on leaves of the whole
pub put_part : (room : List ℕ) (at : ℕ) (bytes : List ℕ) → at + length bytes ≤ length room
    → put_mid at (length room - at) room (bytes ++ drop (length bytes) (take (length room - at) (drop at room))) ≡ put_at room
    at bytes
put_part room at bytes h =
    let e = drop_of_length-le (drop at room) {i = length room - at} (rw (length-drop at room) (omega arith)) in
    rw (part_from_lem at room, e, put_fits room at bytes h, drop-drop (length bytes) at room, append-nil, append_assoc)

-- ---- the library's test is ours: as `==` compares
pub exactly_lem : (s word : List ℕ) → pointwise ◌=?◌ s word ≡ is_exactly word s
unfolding is_exactly begins agree
exactly_lem [] [] = refl
exactly_lem [] (letter ∷ letters) = rw (eqb-zero-suc (length letters))
exactly_lem (byte ∷ bytes) [] = sym (eqb-suc-zero (length bytes))
exactly_lem (byte ∷ bytes) (letter ∷ letters) =
    ap (λ (b : Bool). (byte =? letter) && b) (exactly_lem bytes letters)
    ∙ sym (and_assoc (byte =? letter) (agree bytes letters =? length letters) (length bytes =? length letters))
    ∙ ap₂ ◌&&◌ (sym (agree_by (byte =? letter) (agree bytes letters) (length letters))) (sym (eqb-suc-suc (length bytes) (length letters)))

-- the bytes that `copy_from_slice` leaves in the middle of the room
pub put_middle : (room : List ℕ) (at : ℕ) (bytes : List ℕ) → at + length bytes ≤ length room
    → put_mid at (at + length bytes - at) room bytes ≡ put_at room at bytes
put_middle room at bytes h =
    let e : at + length bytes - at ≡ length bytes = omega arith in
    rw (e, put_fits room at bytes h, drop-drop (length bytes) at room, append_assoc)

-- what was written in the middle is gone where it is written over
pub put_again : (room : List ℕ) (at n : ℕ) (one other : List ℕ) → at + n ≤ length room → length one ≡ n
    → put_mid at n (put_mid at n room one) other ≡ put_mid at n room other
put_again room at n one other h e =
    let front = take-put_mid_below at n room one at (le_refl at) (omega arith) in
    let rest : drop n (drop at (put_mid at n room one)) ≡ drop n (drop at room) =
    drop-drop n at (put_mid at n room one) ∙ drop-put_mid at n room one (at + n) (le_refl (at + n)) (omega arith) e ∙ sym (drop-drop n at room) in
    ap₂ (λ (l m : List ℕ). l ++ (other ++ m)) front rest

-- what a caller learns of what stands behind a word
pub behind_some : (word s rest : List ℕ) → Some rest ≡ behind word s → (begins word s ≡ true) × (rest ≡ drop (length word) s)
unfolding behind
behind_some word s rest e = by (begins word s) e
  where
    by : (b : Bool) → Some rest ≡ (if b then Some (drop (length word) s) else None) → (b ≡ true) × (rest ≡ drop (length word) s)
    by true e = (refl, cc)
    by false e = cc
