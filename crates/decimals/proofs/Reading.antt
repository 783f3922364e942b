-- Laws of reading numbers: what a turn of the reader does, and that reading and writing undo one another.
use Rattle.std.specs.Prelude.{if◌then◌else◌}
use Prim.Native.Nat.{ℕ, zero, suc, ◌+◌, ◌-◌, ◌*◌, ◌/◌, ◌%◌, ◌^◌, ◌≤◌, ◌<◌}
use native.Mathlib.Numerals.{add-one}
use native.Mathlib.Omega.{arith}
use mathlib.Core.Path.{◌≡◌, refl, sym, ap, ◌∙◌}
use mathlib.Core.Bool.{Bool, true, false, ◌&&◌, ◌||◌, not}
use mathlib.Core.List.{List, [], ◌∷◌, ◌++◌, append_assoc}
use lib.Dec.{leb}
use lib.ListN.{length, get_or, drop, length-append, drop_of_length-le}
use lib.Seq.{drop-append_seam}
use borrow.Author.Tests.{le-ltb, leb-true, eq-eqb, ltb-false, le-leb, ne_eqb, eqb-true, eqb-false}
use Rattle.words.specs.Tests.{◌<?◌, ◌=?◌}
use Rattle.words.proofs.Booleans.{not_both, both_hold, neither_holds}
use Rattle.decimals.specs.declared.Number.{Number}
use Rattle.decimals.specs.Decimals.{is_digit, digits_in, digits, number, no_number, read_on, number_at}
use Rattle.decimals.proofs.Digits.{by_size, tenth, one_digit, last_digit, digits_one, digits_more}

-- ---- what the loop goes by

pub first_byte : (allowed : Bool) (greatest : ℕ) (s : List ℕ)
    → number_at allowed greatest s
    ≡ (if not (is_digit (get_or s 0 0)) then no_number 0
    else (if ((get_or s 0 0 - 48 =? 0) && not allowed) || (greatest <? get_or s 0 0 - 48) then no_number 0
    else read_on greatest (get_or s 0 0 - 48) 1 (drop 1 s)))
unfolding number_at
first_byte allowed greatest [] = refl
first_byte allowed greatest (byte ∷ bytes) = refl

pub next_byte : (greatest value i : ℕ) (s : List ℕ) (at : ℕ)
    → read_on greatest value i (drop at s)
    ≡ (if not (is_digit (get_or s at 0)) then number value i
    else (if (value =? 0) || (greatest <? value * 10 + (get_or s at 0 - 48)) then no_number i
    else read_on greatest (value * 10 + (get_or s at 0 - 48)) (i + 1) (drop (at + 1) s)))
unfolding read_on
next_byte greatest value i [] zero = refl
next_byte greatest value i [] (suc at) = refl
next_byte greatest value i (byte ∷ bytes) zero = refl
next_byte greatest value i (byte ∷ bytes) (suc at) =
    rw (add-one (suc at)) (rw (add-one at) at (next_byte greatest value i bytes at))

-- nothing is left to read on
pub read_end : (greatest value i : ℕ) (s : List ℕ) → length s ≡ i
    → read_on greatest value i (drop i s) ≡ number value (length s)
unfolding read_on
read_end greatest value i s e = rw (e, drop_of_length-le s {i = i} (omega arith))

pub digit_within : (s : List ℕ) (i : ℕ) → is_digit (get_or s i 0) ≡ true → i < length s
digit_within [] zero e = absurd (not_both e refl)
digit_within [] (suc i) e = absurd (not_both e refl)
digit_within (x ∷ s) zero e = omega arith
digit_within (x ∷ s) (suc i) e = let h = digit_within s i e in omega arith

pub digit_range : (byte : ℕ) → is_digit byte ≡ true → (48 ≤ byte) × (byte ≤ 57)
digit_range byte e = let h = both_hold (leb 48 byte) (leb byte 57) e in (leb-true 48 byte h.0, leb-true byte 57 h.1)

-- ---- what is written is read

digit_yes : (d : ℕ) → d < 10 → is_digit (48 + d) ≡ true
digit_yes d h = rw (le-leb 48 (48 + d) (omega arith), le-leb (48 + d) 57 (omega arith))

-- 0 only where it is allowed
zero_allowed : (allowed : Bool) (n : ℕ) → (n ≡ 0 → allowed ≡ true) → ((n =? 0) && not allowed) ≡ false
zero_allowed true n h = by (n =? 0)
  where
    by : (b : Bool) → (b && false) ≡ false
    by true = refl
    by false = refl
zero_allowed false n h = by (n =? 0) refl
  where
    by : (b : Bool) → (n =? 0) ≡ b → (b && true) ≡ false
    by true e = sym (h (eqb-true n 0 e))
    by false e = refl

read_first : (allowed : Bool) (greatest n : ℕ) (rest : List ℕ) → n < 10 → n ≤ greatest → (n ≡ 0 → allowed ≡ true)
    → number_at allowed greatest ((48 + n) ∷ rest) ≡ read_on greatest n 1 rest
unfolding number_at
read_first allowed greatest n rest h m z =
    let e : 48 + n - 48 ≡ n = omega arith in
    rw (digit_yes n h, e, zero_allowed allowed n z, le-ltb greatest n m)

read_next : (greatest n i : ℕ) (rest : List ℕ) → 10 ≤ n → n ≤ greatest
    → read_on greatest (n / 10) i ((48 + n % 10) ∷ rest) ≡ read_on greatest n (i + 1) rest
unfolding read_on
read_next greatest n i rest h m =
    let e : n / 10 * 10 + (48 + n % 10 - 48) ≡ n = omega arith in
    rw (digit_yes (n % 10) (omega arith), ne_eqb (n / 10) 0 (λ z. let w : 10 ≤ n = h in omega arith), e, le-ltb greatest n m)

digits_start : (k n : ℕ) (allowed : Bool) (greatest : ℕ) (rest : List ℕ) → n < 10 ^ suc k → n ≤ greatest
    → (n ≡ 0 → allowed ≡ true)
    → number_at allowed greatest (digits_in (suc k) n ++ rest) ≡ read_on greatest n (length (digits_in (suc k) n)) rest
digits_start zero n allowed greatest rest h m z =
    rw (one_digit 0 n (omega arith)) (read_first allowed greatest n rest (omega arith) m z)
digits_start (suc k) n allowed greatest rest h m z =
    let before = digits_start k (n / 10) allowed greatest ((48 + n % 10) ∷ rest) (tenth (suc k) n h) (omega arith) in
    by_size n
    (λ l. rw (one_digit (suc k) n l) (read_first allowed greatest n rest l m z))
    (λ l.
    rw (
      last_digit (suc k) n l,
      append_assoc,
      before (λ e. absurd (let w : 10 ≤ n = l in omega arith)),
      length-append (digits_in (suc k) (n / 10)) ((48 + n % 10) ∷ []),
    )
    (read_next greatest n (length (digits_in (suc k) (n / 10))) rest l m))

-- a number that is written is read back as itself, whatever follows that is no digit
pub digits_read : (n : ℕ) (allowed : Bool) (greatest : ℕ) (rest : List ℕ) → n < 2 ^ 64 → n ≤ greatest → (n ≡ 0 → allowed ≡ true)
    → is_digit (get_or rest 0 0) ≡ false → number_at allowed greatest (digits n ++ rest) ≡ number n (length (digits n))
unfolding digits
digits_read n allowed greatest rest b m z e =
    digits_start 19 n allowed greatest rest (omega arith) m z ∙ next_byte greatest n (length (digits_in 20 n)) rest 0 ∙ rw e

-- ---- what is read is what is written

pub record IsNumber (allowed : Bool) (greatest : ℕ) (s : List ℕ) (n k : ℕ) : Type 0 where
  pub front : s ≡ digits n ++ drop k s
  pub count : k ≡ length (digits n)
  pub most : n ≤ greatest
  pub nonzero : n ≡ 0 → allowed ≡ true

record Going (greatest value : ℕ) (s : List ℕ) (n k : ℕ) : Type 0 where
  front : s ≡ digits n ++ drop k s
  count : k ≡ length (digits n)
  most : n ≤ greatest
  nonzero : n ≡ 0 → value ≡ 0

value_path : {a b i k : ℕ} → number a i ≡ number b k → (a ≡ b) × (i ≡ k)
value_path {a} {b} {i} {k} e =
    let same : ◌≡◌ {A = Number} (record { value = a; length = i }) (record { value = b; length = k }) = cc in
    (ap (λ (n : Number). n.value) same, ap (λ (n : Number). n.length) same)

no_value : {A : Type 0} {i n k : ℕ} → no_number i ≡ number n k → A
no_value e = let z : ◌≡◌ {A = ℕ} 0 1 = cc in absurd (let w : 0 ≡ 1 = z in omega arith)

stop : (greatest value n i k : ℕ) (done bytes : List ℕ) → done ≡ digits value → i ≡ length done → value ≤ greatest
    → number value i ≡ number n k → Going greatest value (done ++ bytes) n k
stop greatest value n i k done bytes d c m e =
    let p = value_path e in
    record {
      front = rw (← p.1, c, drop-append_seam done bytes, ← p.0, d);
      count = sym p.1 ∙ c ∙ ap length d ∙ ap (λ (x : ℕ). length (digits x)) p.0;
      most = omega (arith, p.0);
      nonzero = λ z. p.0 ∙ z;
    }

-- the digit that is read extends the digits
extended : (value byte : ℕ) (done : List ℕ) → done ≡ digits value → (value ≡ 0 → ⊥) → 48 ≤ byte → byte ≤ 57
    → value * 10 + (byte - 48) < 2 ^ 64 → done ++ (byte ∷ []) ≡ digits (value * 10 + (byte - 48))
extended value byte done d nz l h b =
    let v : (value * 10 + (byte - 48)) / 10 ≡ value = omega arith in
    let r : 48 + (value * 10 + (byte - 48)) % 10 ≡ byte = omega arith in
    let big : 10 ≤ value * 10 + (byte - 48) = omega arith in
    sym (digits_more (value * 10 + (byte - 48)) big b ∙ rw (v, r, d))

going : (greatest n k : ℕ) → greatest < 2 ^ 64 → (bytes : List ℕ) (value i : ℕ) (done : List ℕ) → done ≡ digits value
    → i ≡ length done
    → value ≤ greatest → read_on greatest value i bytes ≡ number n k → Going greatest value (done ++ bytes) n k
unfolding read_on
going greatest n k b [] value i done d c m e = stop greatest value n i k done [] d c m e
going greatest n k b (byte ∷ bytes) value i done d c m e =
    by (is_digit byte) refl ((value =? 0) || (greatest <? value * 10 + (byte - 48))) refl e
    (going greatest n k b bytes (value * 10 + (byte - 48)) (i + 1) (done ++ (byte ∷ [])))
  where
    by : (a : Bool) → is_digit byte ≡ a → (t : Bool) → ((value =? 0) || (greatest <? value * 10 + (byte - 48))) ≡ t
        → (if not a then number value i else (if t then no_number i else read_on greatest (value * 10 + (byte - 48)) (i + 1) bytes)) ≡ number
        n k
        → (done ++ (byte ∷ []) ≡ digits (value * 10 + (byte - 48)) → i + 1 ≡ length (done ++ (byte ∷ []))
        → value * 10 + (byte - 48) ≤ greatest
        → read_on greatest (value * 10 + (byte - 48)) (i + 1) bytes ≡ number n k
        → Going greatest (value * 10 + (byte - 48)) ((done ++ (byte ∷ [])) ++ bytes) n k)
        → Going greatest value (done ++ (byte ∷ bytes)) n k
    by false p t q e f = stop greatest value n i k done (byte ∷ bytes) d c m e
    by true p true q e f = no_value e
    by true p false q e f =
        let r = digit_range byte p in
        let o = neither_holds (value =? 0) (greatest <? value * 10 + (byte - 48)) q in
        let nz = eqb-false value 0 o.0 in
        let le = ltb-false greatest (value * 10 + (byte - 48)) o.1 in
        let g =
        f (extended value byte done d nz r.0 r.1 (omega arith)) (omega (arith, length-append done (byte ∷ []))) le e in
        let a = append_assoc done (byte ∷ []) bytes in
        record {
          front = rw a at g.front;
          count = g.count;
          most = g.most;
          nonzero = λ z. let w = g.nonzero z in absurd (nz (omega arith));
        }

-- a number that is read is, byte for byte, what writing its value gives
pub read_digits : (allowed : Bool) (greatest : ℕ) (s : List ℕ) (n k : ℕ) → greatest < 2 ^ 64
    → number_at allowed greatest s ≡ number n k
    → IsNumber allowed greatest s n k
unfolding number_at
read_digits allowed greatest [] n k b e = no_value e
read_digits allowed greatest (byte ∷ bytes) n k b e =
    by (is_digit byte) refl (((byte - 48 =? 0) && not allowed) || (greatest <? byte - 48)) refl e
  where
    allows : (a : Bool) → ((byte - 48 =? 0) && not a) ≡ false → byte - 48 ≡ 0 → a ≡ true
    allows true e z = refl
    allows false e z = absurd (not_both (rw (eq-eqb (byte - 48) 0 z)) e)

    by : (a : Bool) → is_digit byte ≡ a → (t : Bool) → (((byte - 48 =? 0) && not allowed) || (greatest <? byte - 48)) ≡ t
        → (if not a then no_number 0 else (if t then no_number 0 else read_on greatest (byte - 48) 1 bytes)) ≡ number n k
        → IsNumber allowed greatest (byte ∷ bytes) n k
    by false p t q e = no_value e
    by true p true q e = no_value e
    by true p false q e =
        let r = digit_range byte p in
        let o = neither_holds ((byte - 48 =? 0) && not allowed) (greatest <? byte - 48) q in
        let same : 48 + (byte - 48) ≡ byte = omega arith in
        let d = rw same at (digits_one (byte - 48) (omega arith)) in
        let g = going greatest n k b bytes (byte - 48) 1 (byte ∷ []) (sym d) refl (ltb-false greatest (byte - 48) o.1) e in
        record { front = g.front; count = g.count; most = g.most; nonzero = λ z. allows allowed o.0 (g.nonzero z) }
