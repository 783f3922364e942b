-- The greatest counter kept, as a chain finds it: each counter against the greatest before it.
use Rattle.std.specs.Prelude.{if◌then◌else◌, map}
use Rattle.std.specs.List.{fold, filter}
use Rattle.std.specs.Ordering.{ord_max, nat_cmp, is_lt}
use Rattle.std.specs.declared.cmp.Ordering.TheVariants.{Less, Equal, Greater}
use Prim.Native.Nat.{ℕ, max}
use native.Mathlib.Omega.{arith}
use mathlib.Core.Path.{◌≡◌, refl, ◌∙◌}
use mathlib.Core.Bool.{Bool, true, false, ◌&&◌}
use mathlib.Core.List.{List, [], ◌∷◌}
use borrow.Author.Tests.{ltb-true, ltb-false}
use Rattle.words.specs.Tests.{◌<?◌, ◌=?◌}
use Rattle.words.proofs.Booleans.{whether}
use Rattle.standby_rules.specs.declared.Place.{Place}
use Rattle.standby_rules.specs.Standby.{greatest}
use Rattle.standby.specs.Parts.{greatest_by_chain}

larger : (m k : ℕ) → ord_max nat_cmp m k ≡ max m k
larger m k = by (k <? m) (k =? m) refl
  where
    by : (below same : Bool) → (k <? m) ≡ below
        → (if is_lt (if below then Less else (if same then Equal else Greater)) then m else k) ≡ max m k
    by true same e = omega (arith, ltb-true k m e)
    by false true e = omega (arith, ltb-false k m e)
    by false false e = omega (arith, ltb-false k m e)

-- one counter more
against : (m k g : ℕ) → max (ord_max nat_cmp m k) g ≡ max m (if g <? k then k else g)
against m k g =
    rw (larger m k)
    (whether (λ x. max (max m k) g ≡ max m x) (g <? k) (λ e. omega (arith, ltb-true g k e))
    (λ e. omega (arith, ltb-false g k e)))

abbrev counters : List Place → List ℕ
counters places = map (λ (place : Place). place.counter) places

module _ (m : ℕ) (place : Place) (places : List Place)
    (rest : (n : ℕ) → fold (ord_max nat_cmp) n (counters (filter (λ (p : Place). p.kept) places)) ≡ max n (greatest places)) where
  more : (kept : Bool)
      → fold (ord_max nat_cmp) m (counters (if kept then place ∷ filter (λ (p : Place). p.kept) places else filter (λ (p : Place). p.kept) places))
      ≡ max m (if kept && (greatest places <? place.counter) then place.counter else greatest places)
  more true = rest (ord_max nat_cmp m place.counter) ∙ against m place.counter (greatest places)
  more false = rest m

from : (m : ℕ) (places : List Place)
    → fold (ord_max nat_cmp) m (counters (filter (λ (p : Place). p.kept) places)) ≡ max m (greatest places)
unfolding greatest
from m [] = omega arith
from m (place ∷ places) = more m place places (λ n. from n places) place.kept

pub chain_is_greatest : (places : List Place) → greatest_by_chain places ≡ greatest places
chain_is_greatest places = from 0 places ∙ omega arith
