-- What stands behind each verdict: m is the greatest counter kept, dead has an ack that says so with m, and alive has none.
use Rattle.std.specs.Prelude.{if◌then◌else◌}
use Prim.Native.Nat.{ℕ, zero, suc, ◌≤◌, ◌<◌}
use native.Mathlib.Omega.{arith}
use native.Mathlib.Nat.{le_refl, le_trans}
use mathlib.Core.Path.{◌≡◌, refl, sym, ◌∙◌}
use mathlib.Core.Bool.{Bool, true, false, ◌&&◌}
use mathlib.Core.List.{List, [], ◌∷◌}
use lib.ListN.{get_or}
use borrow.Author.Tests.{ltb-true, ltb-false, eqb-true, eqb-false, eq-eqb}
use Rattle.words.specs.Tests.{◌<?◌, ◌=?◌}
use Rattle.words.specs.Lists.{some}
use Rattle.words.specs.Said.{Said}
use Rattle.words.proofs.Booleans.{both_hold, not_both, whether}
use Rattle.words.proofs.Walks.{some_at, none_at}
use Rattle.messages.specs.declared.Status.{Status}
use Rattle.messages.specs.declared.Status.TheVariants.{Alive, Dead}
use Rattle.messages.specs.Answers.{Spoken, says, says_of}
use Rattle.messages.proofs.Apart.{says_other}
use Rattle.standby_rules.specs.declared.Place.{Place}
use Rattle.standby_rules.specs.Standby.{unused, is_dead, greatest, says_dead, verdict}
use Rattle.standby_rules.specs.Claims.{Kept, Greatest, VerdictsHold}

-- ---- The greatest counter

-- one place more
at_most : (place : Place) (g : ℕ) → g ≤ (if place.kept && (g <? place.counter) then place.counter else g)
at_most place g = whether (λ m. g ≤ m) (place.kept && (g <? place.counter)) above (λ e. le_refl g)
  where
    above : (place.kept && (g <? place.counter)) ≡ true → g ≤ place.counter
    above e = omega (arith, ltb-true g place.counter (both_hold place.kept (g <? place.counter) e).1)

as_much : (place : Place) (g : ℕ) → place.kept ≡ true
    → place.counter ≤ (if place.kept && (g <? place.counter) then place.counter else g)
as_much place g k =
    rw k (whether (λ m. place.counter ≤ m) (g <? place.counter) (λ e. le_refl _) (λ e. ltb-false g place.counter e))

none_higher : (places : List Place) (x : ℕ) → Kept places x → (get_or places x unused).counter ≤ greatest places
unfolding greatest
none_higher [] x k = absurd (not_both k refl)
none_higher (place ∷ places) zero k = as_much place (greatest places) k
none_higher (place ∷ places) (suc x) k = le_trans (none_higher places x k) (at_most place (greatest places))

one_as_high : (places : List Place) → 0 < greatest places
    → (x : ℕ) × Kept places x × ((get_or places x unused).counter ≡ greatest places)
unfolding greatest
one_as_high [] h = let z : ⊥ = omega arith in absurd z
one_as_high (place ∷ places) h =
    by place.kept (greatest places <? place.counter) refl h (one_as_high places)
  where
    by : (k higher : Bool) → place.kept ≡ k → 0 < (if k && higher then place.counter else greatest places)
        → (0 < greatest places → (x : ℕ) × Kept places x × ((get_or places x unused).counter ≡ greatest places))
        → (x : ℕ) × Kept (place ∷ places) x
        × ((get_or (place ∷ places) x unused).counter ≡ (if k && higher then place.counter else greatest places))
    by true true e h rest = (0, e, refl)
    by true false e h rest = let found = rest h in (suc found.0, found.1, found.2)
    by false higher e h rest = let found = rest h in (suc found.0, found.1, found.2)

is_greatest : (places : List Place) → Greatest places (greatest places)
is_greatest places = record { none_higher = none_higher places; one_as_high = one_as_high places }

-- ---- What is said

says_dead_lem : (status : Status) → is_dead status ≡ true → status ≡ Dead
unfolding is_dead
says_dead_lem Alive e = absurd (not_both e refl)
says_dead_lem Dead e = refl

says_alive : (status : Status) → (is_dead status ≡ true → ⊥) → status ≡ Alive
unfolding is_dead
says_alive Alive e = refl
says_alive Dead e = absurd (e refl)

-- the verdict by its three cases
pub by_verdict : (P : Said Spoken → Type 0) (places : List Place)
    → (greatest places ≡ 0 → P (says "unknown"))
    → (0 < greatest places → some (says_dead (greatest places)) places ≡ true → P (says_of "dead" (greatest places)))
    → (0 < greatest places → some (says_dead (greatest places)) places ≡ false → P (says_of "alive" (greatest places)))
    → P (verdict places)
unfolding verdict
by_verdict P places unknown dead alive =
    whether P (greatest places =? 0)
    (λ e. unknown (eqb-true (greatest places) 0 e))
    (λ e.
    let positive : 0 < greatest places = above (greatest places) (eqb-false (greatest places) 0 e) in
    whether P (some (says_dead (greatest places)) places) (dead positive) (alive positive))
  where
    above : (m : ℕ) → (m ≡ 0 → ⊥) → 0 < m
    above zero h = absurd (h refl)
    above (suc m) h = omega arith

abbrev DeadBehind : List Place → ℕ → Type 0
DeadBehind places m =
    (0 < m) × (m ≡ greatest places)
    × ((x : ℕ) × Kept places x × ((get_or places x unused).counter ≡ m) × ((get_or places x unused).status ≡ Dead))

dead_behind : (places : List Place) (m : ℕ) → verdict places ≡ says_of "dead" m → DeadBehind places m
dead_behind places m =
    by_verdict (λ said. said ≡ says_of "dead" m → DeadBehind places m) places
    (λ zero e. says_other (says "unknown") (says_of "dead" m) refl e)
    (λ positive some-dead e.
    let same : greatest places ≡ m = cc in
    let found = some_at (says_dead (greatest places)) unused places some-dead in
    let place = get_or places found.0 unused in
    let parts = both_hold (place.kept && is_dead place.status) (place.counter =? greatest places) found.1 in
    let marks = both_hold place.kept (is_dead place.status) parts.0 in (
      omega (arith, positive, same),
      sym same,
      (found.0, marks.0, eqb-true place.counter (greatest places) parts.1 ∙ same, says_dead_lem place.status marks.1),
    ))
    (λ positive none-dead e. says_other (says_of "alive" _) (says_of "dead" m) refl e)

abbrev AliveBehind : List Place → ℕ → Type 0
AliveBehind places m =
    (0 < m) × (m ≡ greatest places)
    × ((x : ℕ) → Kept places x → (get_or places x unused).counter ≡ m → (get_or places x unused).status ≡ Alive)

alive_behind : (places : List Place) (m : ℕ) → verdict places ≡ says_of "alive" m → AliveBehind places m
alive_behind places m =
    by_verdict (λ said. said ≡ says_of "alive" m → AliveBehind places m) places
    (λ zero e. says_other (says "unknown") (says_of "alive" m) refl e)
    (λ positive some-dead e. says_other (says_of "dead" _) (says_of "alive" m) refl e)
    (λ positive none-dead e.
    let same : greatest places ≡ m = cc in (
      omega (arith, positive, same),
      sym same,
      λ x k c. each (get_or places x unused) k (c ∙ sym same)
          (none_at (says_dead (greatest places)) unused refl places none-dead x),
    ))
  where
    each : (place : Place) {g : ℕ} → place.kept ≡ true → place.counter ≡ g → says_dead g place ≡ false → place.status ≡ Alive
    each place {g} k c no_dead = says_alive place.status (λ d. not_both (rw (k, d) (eq-eqb place.counter g c)) no_dead)

unknown_behind : (places : List Place) → verdict places ≡ says "unknown" → greatest places ≡ 0
unknown_behind places =
    by_verdict (λ said. said ≡ says "unknown" → greatest places ≡ 0) places
    (λ zero e. zero)
    (λ positive some-dead e. says_other (says_of "dead" _) (says "unknown") refl e)
    (λ positive none-dead e. says_other (says_of "alive" _) (says "unknown") refl e)

pub verdicts_hold_lem : VerdictsHold
verdicts_hold_lem = record {
  is_greatest = is_greatest;
  dead = dead_behind;
  alive = alive_behind;
  unknown = unknown_behind;
}
