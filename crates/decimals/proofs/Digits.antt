-- Laws of `digits`, each proved once over the count of digits.
use Rattle.std.specs.Prelude.{if◌then◌else◌}
use Prim.Native.Nat.{ℕ, zero, suc, ◌+◌, ◌*◌, ◌/◌, ◌%◌, ◌^◌, ◌≤◌, ◌<◌}
use native.Mathlib.Nat.{div-lt_iff_lt-mul, pow-suc}
use native.Mathlib.Omega.{arith}
use mathlib.Core.Path.{◌≡◌, refl, sym, ap, ◌∙◌}
use mathlib.Core.Bool.{Bool, true, false}
use mathlib.Core.List.{List, [], ◌∷◌, ◌++◌}
use lib.Dec.{ltb}
use lib.ListN.{length, length-append}
use borrow.Author.Tests.{le-leb, lt-ltb, le-ltb, ltb-true, ltb-false}
use Rattle.words.specs.Lists.{every}
use Rattle.words.proofs.Walks.{every_append}
use Rattle.decimals.specs.Decimals.{is_digit, digits_in, digits}

-- one digit is left, or more
pub by_size {ℓ} : {A : Type ℓ} (n : ℕ) → (n < 10 → A) → (10 ≤ n → A) → A
by_size {A = A} n few many = by (ltb n 10) refl
  where
    by : (b : Bool) → ltb n 10 ≡ b → A
    by true e = few (ltb-true n 10 e)
    by false e = many (ltb-false n 10 e)

pub tenth : (k n : ℕ) → n < 10 ^ suc k → n / 10 < 10 ^ k
tenth k n h = (div-lt_iff_lt-mul {k = 10} {x = n} {y = 10 ^ k} (omega arith)).1 (rw (pow-suc 10 k) at h)

pub one_digit : (k n : ℕ) → n < 10 → digits_in (suc k) n ≡ (48 + n) ∷ []
unfolding digits_in
one_digit k n h = rw (lt-ltb n 10 h)

pub last_digit : (k n : ℕ) → 10 ≤ n → digits_in (suc k) n ≡ digits_in k (n / 10) ++ ((48 + n % 10) ∷ [])
unfolding digits_in
last_digit k n h = rw (le-ltb n 10 h)

-- one place more changes nothing where it is not needed
enough : (k n : ℕ) → n < 10 ^ suc k → digits_in (suc (suc k)) n ≡ digits_in (suc k) n
enough zero n h = one_digit 1 n (omega arith) ∙ sym (one_digit 0 n (omega arith))
enough (suc k) n h =
    let e = enough k (n / 10) (tenth (suc k) n h) in
    by_size n (λ l. one_digit (suc (suc k)) n l ∙ sym (one_digit (suc k) n l))
    (λ l. last_digit (suc (suc k)) n l ∙ ap (λ (ds : List ℕ). ds ++ ((48 + n % 10) ∷ [])) e ∙ sym (last_digit (suc k) n l))

pub digits_one : (n : ℕ) → n < 10 → digits n ≡ (48 + n) ∷ []
unfolding digits
digits_one n h = one_digit 19 n h

pub digits_more : (n : ℕ) → 10 ≤ n → n < 2 ^ 64 → digits n ≡ digits (n / 10) ++ ((48 + n % 10) ∷ [])
unfolding digits
digits_more n h b = last_digit 19 n h ∙ ap (λ (ds : List ℕ). ds ++ ((48 + n % 10) ∷ [])) (sym (enough 18 (n / 10) (omega arith)))

pub count_one : (n : ℕ) → n < 10 → length (digits n) ≡ 1
count_one n h = ap length (digits_one n h)

pub count_more : (n : ℕ) → 10 ≤ n → n < 2 ^ 64 → length (digits n) ≡ length (digits (n / 10)) + 1
count_more n h b = ap length (digits_more n h b) ∙ length-append (digits (n / 10)) ((48 + n % 10) ∷ [])

-- how many digits a bound leaves
count_in : (places k n : ℕ) → n < 10 ^ suc k → length (digits_in places n) ≤ suc k
unfolding digits_in
count_in zero k n h = omega arith
count_in (suc places) zero n h = rw (lt-ltb n 10 (omega arith)) (omega arith)
count_in (suc places) (suc k) n h = by (ltb n 10) (count_in places k (n / 10) (tenth (suc k) n h))
  where
    by : (b : Bool) → length (digits_in places (n / 10)) ≤ suc k
        → length (if b then ((48 + n) ∷ []) else (digits_in places (n / 10) ++ ((48 + n % 10) ∷ [])))
        ≤ suc (suc k)
    by true e = omega arith
    by false e = rw (length-append (digits_in places (n / 10)) ((48 + n % 10) ∷ [])) (omega arith)

pub digits_most : (k n : ℕ) → n < 10 ^ suc k → length (digits n) ≤ suc k
unfolding digits
digits_most k n h = count_in 20 k n h

one_is_digit : (d : ℕ) → d < 10 → every is_digit ((48 + d) ∷ []) ≡ true
one_is_digit d h = rw (le-leb 48 (48 + d) (omega arith), le-leb (48 + d) 57 (omega arith))

-- never more than 20, and every one of them is a digit
all_digits : (places n : ℕ) → (length (digits_in places n) ≤ places) × (every is_digit (digits_in places n) ≡ true)
unfolding digits_in
all_digits zero n = (omega arith, refl)
all_digits (suc places) n =
    let before = all_digits places (n / 10) in
    by_size n (λ h. rw (one_digit places n h) (omega arith, one_is_digit n h))
    (λ h.
    rw (last_digit places n h) (
      rw (length-append (digits_in places (n / 10)) ((48 + n % 10) ∷ [])) (omega arith),
      every_append is_digit
          (digits_in places (n / 10)) _ before.1 (one_is_digit (n % 10) (omega arith)),
    ))

pub digits_twenty : (n : ℕ) → length (digits n) ≤ 20
unfolding digits
digits_twenty n = (all_digits 20 n).0

pub digits_all : (n : ℕ) → every is_digit (digits n) ≡ true
unfolding digits
digits_all n = (all_digits 20 n).1

-- at least one digit
pub digits_some : (n : ℕ) → n < 2 ^ 64 → 1 ≤ length (digits n)
digits_some n b = by_size n (λ l. omega (arith, count_one n l)) (λ l. omega (arith, count_more n l b))

power_some : (k : ℕ) → 1 ≤ 10 ^ k
power_some zero = omega arith
power_some (suc k) = rw (pow-suc 10 k) (let h = power_some k in omega arith)

-- a number has reached a power of ten: it has a digit more than the power says
count_least : (places k n : ℕ) → k < places → 10 ^ k ≤ n → suc k ≤ length (digits_in places n)
count_least zero k n h m = omega arith
count_least (suc places) zero n h m =
    by_size n (λ l. rw (one_digit places n l) (omega arith))
    (λ l. rw (last_digit places n l, length-append (digits_in places (n / 10)) ((48 + n % 10) ∷ [])) (omega arith))
count_least (suc places) (suc k) n h m =
    let times = rw (pow-suc 10 k) at m in
    let part : 10 ^ k ≤ n / 10 = omega arith in
    let least : 1 ≤ 10 ^ k = power_some k in
    let big : 10 ≤ n = omega arith in
    let before : suc k ≤ length (digits_in places (n / 10)) = count_least places k (n / 10) (omega arith) part in
    rw (last_digit places n big, length-append (digits_in places (n / 10)) ((48 + n % 10) ∷ [])) (omega arith)

pub count_by_power : (k n : ℕ) → k < 20 → 10 ^ k ≤ n → n < 10 * 10 ^ k → length (digits n) ≡ k + 1
unfolding digits
count_by_power k n h l m =
    let most : n < 10 ^ suc k = rw (pow-suc 10 k) (omega arith) in
    omega (arith, count_least 20 k n h l, count_in 20 k n most)
