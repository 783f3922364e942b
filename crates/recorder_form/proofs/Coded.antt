-- The form as the code tests it: the conditions in the order of rule 3.2, joined from the left. Where the counter is 0 the
-- zeros of the places follow from other conditions.
use Prim.Native.Nat.{ℕ, zero, suc, ◌-◌, ◌≤◌, ◌<◌}
use native.Mathlib.Omega.{arith}
use mathlib.Core.Path.{◌≡◌, refl, sym, ap, ap₂, ◌∙◌}
use mathlib.Core.Bool.{Bool, true, false, ◌&&◌, ◌||◌, not, and-false}
use mathlib.Core.List.{List, [], ◌∷◌}
use lib.Dec.{leb-suc-zero}
use lib.ListN.{drop, get_or}
use borrow.Author.Tests.{eqb-true, ne_eqb, le-leb, lt-leb}
use Rattle.words.specs.Tests.{◌≤?◌, ◌=?◌}
use Rattle.words.specs.Lists.{every}
use Rattle.words.proofs.Conditions.{every_anywhere}
use Rattle.words.proofs.Gathered.{joined, joined_every}
use Rattle.settings.specs.declared.Settings.{Settings}
use Rattle.settings.specs.Settings.{n, η}
use Rattle.messages.specs.Messages.{top_counter, top_reading}
use Rattle.recorder_rules.specs.declared.Recorder.{Recorder}
use Rattle.recorder_rules.specs.Recorder.{last_send_of, last_reading_of, open_lease_count, leases, is_zero, spaced, all_zero, young, form, has_form}

-- what the code tests of the numbers where the counter is 0
abbrev numbers_zero : Recorder → Bool
numbers_zero rec = is_zero rec.stopped && is_zero (last_send_of rec) && is_zero (open_lease_count rec)

-- the conditions from unused places on; at most 64 leases are tested first of all
abbrev later : Settings → Recorder → List Bool
later s rec =
    every is_zero (drop (open_lease_count rec) rec.sends)
    ∷ every is_zero (drop (n s) rec.grants)
    ∷ every (λ grant. grant ≤? rec.counter) rec.grants
    ∷ (is_zero rec.counter || (1 ≤? open_lease_count rec))
    ∷ (open_lease_count rec ≤? rec.counter)
    ∷ spaced (η s) (leases rec)
    ∷ (is_zero rec.counter || (get_or rec.sends (open_lease_count rec - 1) 0 =? last_send_of rec))
    ∷ (rec.counter - 1 ≤? last_send_of rec)
    ∷ (last_send_of rec ≤? last_reading_of rec)
    ∷ (last_reading_of rec ≤? top_reading)
    ∷ (not (is_zero rec.stopped) || young s rec)
    ∷ []

abbrev conditions : Settings → Recorder → List Bool
conditions s rec =
    (rec.counter ≤? top_counter)
    ∷ (rec.stopped ≤? 1)
    ∷ (not (is_zero rec.counter) || numbers_zero rec)
    ∷ later s rec

at_most_zero : (x : ℕ) → (x ≤? 0) ≡ is_zero x
at_most_zero zero = refl
at_most_zero (suc x) = leb-suc-zero x ∙ sym (ne_eqb (suc x) 0 (λ e. omega arith))

none_above_zero : (xs : List ℕ) → every (λ x. x ≤? 0) xs ≡ every is_zero xs
none_above_zero [] = refl
none_above_zero (x ∷ xs) = ap₂ ◌&&◌ (at_most_zero x) (none_above_zero xs)

-- the places' zeros follow where those of the numbers hold
spare : (a b d e f : Bool) → (d ≡ true → (e ≡ true) × (f ≡ true)) → (a && true && b && d && e && f) ≡ (a && b && d)
spare true true true e f h = rw ((h refl).0, (h refl).1)
spare true true false e f h = refl
spare true false d e f h = refl
spare false b d e f h = refl

module _ (s : Settings) (rec : Recorder) where
  all_zero_lem : is_zero rec.counter ≡ true → every (λ condition. condition) (later s rec) ≡ true → all_zero rec ≡ numbers_zero rec
  all_zero_lem z e =
      let holds = every_anywhere (λ condition. condition) true refl (later s rec) e in
      rw z
      (spare (is_zero rec.stopped) (is_zero (last_send_of rec)) (is_zero (open_lease_count rec)) (every is_zero rec.sends)
      (every is_zero rec.grants)
      (λ none. (
        rw (eqb-true (open_lease_count rec) 0 none) at (holds 0),
        sym (none_above_zero rec.grants) ∙ ap (λ (k : ℕ). every (λ grant. grant ≤? k) rec.grants)
            (sym (eqb-true rec.counter 0 z)) ∙ holds 2,
      )))

  third : every (λ condition. condition) (later s rec) ≡ true
      → (not (is_zero rec.counter) || all_zero rec) ≡ (not (is_zero rec.counter) || numbers_zero rec)
  third e = by (is_zero rec.counter) refl
    where
      by : (b : Bool) → is_zero rec.counter ≡ b → (not b || all_zero rec) ≡ (not b || numbers_zero rec)
      by true z = all_zero_lem z e
      by false z = refl

  same_under : (x y rest : Bool) → (rest ≡ true → x ≡ y) → (x && rest) ≡ (y && rest)
  same_under x y true h = ap (λ (b : Bool). b && true) (h refl)
  same_under x y false h = and-false x ∙ sym (and-false y)

  pub as_coded : open_lease_count rec ≤ 64 → has_form s rec ≡ joined true (conditions s rec)
  unfolding has_form form
  as_coded h =
      rw (le-leb (open_lease_count rec) 64 h)
      (ap (λ (b : Bool). (rec.counter ≤? top_counter) && ((rec.stopped ≤? 1) && b))
      (same_under (not (is_zero rec.counter) || all_zero rec) (not (is_zero rec.counter) || numbers_zero rec)
      (every (λ condition. condition) (later s rec)) third))
      ∙ sym (joined_every true (conditions s rec))

  pub too_many : 64 < open_lease_count rec → has_form s rec ≡ false
  unfolding has_form form
  too_many h = rw (lt-leb (open_lease_count rec) 64 h) (simp and-false)
