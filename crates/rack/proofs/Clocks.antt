-- The clock lemma: what two readings of one clock say of the span between them. All that stands above goes by `upper` and
-- `lower`, with spans of at most twice the observers' lease.
use Prim.Native.Nat.{ℕ, ◌+◌, ◌-◌, ◌*◌, ◌≤◌, ◌<◌, min}
use native.Mathlib.Omega.{arith}
use mathlib.Core.Path.{◌≡◌, refl, sym, ap, ◌∙◌}
use mathlib.Core.Bool.{Bool, true, false, ◌&&◌}
use borrow.Author.Tests.{ltb-true, leb-true, leb-false}
use Rattle.words.specs.Tests.{◌<?◌, ◌≤?◌}
use Rattle.words.proofs.Booleans.{both_hold}
use Rattle.settings.specs.declared.Settings.{Settings}
use Rattle.settings.specs.Settings.{O, G, rounding}
use Rattle.messages.specs.Messages.{top_reading}
use Rattle.rack.specs.Clocks.{Clock, reads}

-- the party reads r at common time g
pub record Reads (s : Settings) (clock : Clock) (g r : ℕ) : Type 0 where
  pub low : r + clock.behind ≤ clock.at g
  pub high : clock.at g < r + clock.behind + G s

-- what stands in a run is a reading, and in range
pub is_reading : (s : Settings) (clock : Clock) (g r : ℕ) → (reads s clock g r && (r ≤? top_reading)) ≡ true
    → Reads s clock g r × (r ≤ top_reading)
unfolding reads
is_reading s clock g r e =
    let parts = both_hold (reads s clock g r) (r ≤? top_reading) e in
    let p = both_hold (r + clock.behind ≤? clock.at g) (clock.at g <? r + clock.behind + G s) parts.0 in
    (record { low = leb-true _ _ p.0; high = ltb-true _ _ p.1 }, leb-true _ _ parts.1)

span : (clock : Clock) (g₁ g₂ : ℕ) → g₁ ≤ g₂ → clock.at g₂ ≡ clock.at g₁ + (g₂ - g₁)
span clock g₁ g₂ h =
    let e : g₁ + (g₂ - g₁) ≡ g₂ = omega arith in
    ap clock.at (sym e) ∙ clock.steady g₁ (g₂ - g₁)

-- over a span the reading gains at most the span and the rounding
pub upper : {s : Settings} {clock : Clock} {g₁ r₁ g₂ r₂ : ℕ} → Reads s clock g₁ r₁ → Reads s clock g₂ r₂ → g₁ ≤ g₂
    → g₂ ≤ g₁ + 2 * O s
    → r₂ + g₁ ≤ r₁ + g₂ + rounding s
upper {s} {clock} {g₁} {r₁} {g₂} {r₂} a b h l = omega (arith, span clock g₁ g₂ h, a.high, b.low)

-- and at least the span less the rounding
pub lower : {s : Settings} {clock : Clock} {g₁ r₁ g₂ r₂ : ℕ} → Reads s clock g₁ r₁ → Reads s clock g₂ r₂ → g₁ ≤ g₂
    → r₁ + min (g₂ - g₁) (2 * O s) ≤ r₂ + rounding s
lower {s} {clock} {g₁} {r₁} {g₂} {r₂} a b h = omega (arith, span clock g₁ g₂ h, a.low, b.high)

-- a clock that has gained the observers' lease: nearly so much time has passed
pub lease_passed : {s : Settings} {clock : Clock} {g₁ r₁ g₂ r₂ : ℕ} → Reads s clock g₁ r₁ → Reads s clock g₂ r₂ → g₁ ≤ g₂
    → r₁ + O s ≤ r₂
    → g₁ + O s ≤ g₂ + rounding s
lease_passed {s} {clock} {g₁} {r₁} {g₂} {r₂} a b h gained = by (g₂ ≤? g₁ + 2 * O s) refl
  where
    by : (t : Bool) → (g₂ ≤? g₁ + 2 * O s) ≡ t → g₁ + O s ≤ g₂ + rounding s
    by true e = let u = upper a b h (leb-true g₂ (g₁ + 2 * O s) e) in omega arith
    by false e = let l = leb-false g₂ (g₁ + 2 * O s) e in omega arith
