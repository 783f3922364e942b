-- What a result says tells a value from a refusal, and values and refusals from one another.
use Rattle.std.proofs.Common.{ℕ, Bool, true, false, ◌≡◌, Result, Ok, Err, refl, sym, ap}
use Rattle.words.proofs.Booleans.{not_both}
use Rattle.words.specs.Said.{Said, number, refused}
use Rattle.words.specs.Said.Said.{refusal, gives}
use Rattle.refusals.specs.declared.Refusal.{Refusal}
use Rattle.refusals.specs.Refusals.{number_in, said_in}
use Rattle.refusals.proofs.Apart.{told_apart_lem, some_number}

unfoldable value_or : {A : Type 0} → A → Said A → A
value_or other (refusal k values) = other
value_or other (gives a) = a

unfoldable is_given : {A : Type 0} → Said A → Bool
is_given (refusal k values) = false
is_given (gives a) = true

pub same_given : {A : Type 0} {a b : A} → gives a ≡ gives b → a ≡ b
unfolding value_or
same_given {a = a} e = ap (value_or a) e

pub same_refused : {A : Type 0} {k j : ℕ} → refused {A = A} k ≡ refused j → k ≡ j
unfolding number
same_refused e = ap number e

pub given_or_refused : {A B : Type 0} {a : A} {k : ℕ} → gives a ≡ refused k → B
unfolding is_given
given_or_refused e = absurd (not_both refl (ap is_given e))

-- results that say the same are the same
pub said_in_apart : {A : Type 0} {r r' : Result A Refusal} → said_in r ≡ said_in r' → r ≡ r'
said_in_apart {r = Ok a} {r' = Ok b} e = ap Ok (same_given e)
said_in_apart {r = Ok a} {r' = Err y} e = given_or_refused e
said_in_apart {r = Err x} {r' = Ok b} e = given_or_refused (sym e)
said_in_apart {r = Err x} {r' = Err y} e = ap Err (told_apart_lem x y (same_refused e))

-- and so are those that give nothing
pub number_in_apart : {r r' : Result Unit Refusal} → number_in r ≡ number_in r' → r ≡ r'
number_in_apart {r = Ok a} {r' = Ok b} e = refl
number_in_apart {r = Ok a} {r' = Err y} e = absurd (some_number y (sym e))
number_in_apart {r = Err x} {r' = Ok b} e = absurd (some_number x e)
number_in_apart {r = Err x} {r' = Err y} e = ap Err (told_apart_lem x y e)
