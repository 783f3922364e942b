-- Differences of two numbers as integers: their sign, their sums, and their 64 bits.
use Prim.Native.Nat.{ℕ, zero, suc, ◌+◌, ◌-◌, ◌<◌, ◌^◌}
use native.Mathlib.Nat.{add-zero}
use native.Mathlib.Omega.{arith}
use mathlib.Core.Path.{◌≡◌, refl, sym, ap, ◌∙◌}
use mathlib.Core.Bool.{Bool, true, false, cond}
use lib.Dec.{ltb, leb-suc-zero}
use lib.IntN.{ℤ, pos, negsuc, ◌-ℤ◌, ◌+ℤ◌, neg_ℤ, +ℤ_assoc, neg_ℤ-+ℤ, pos-+ℤ-pos}
use lib.Signed.{mag}
use borrow.Author.Tests.{lt-ltb}
use mir.Syntax.{w64}
use mir.Val.{SFits, to_z, of_z}
use mir.Facts.{to_z-of_z}
use Rattle.words.specs.Tests.{◌<?◌}
use Rattle.settings.specs.Settings.{negative}

-- one number after the other is taken away, or both at once
pub less_sum : (z : ℤ) (x y : ℕ) → z -ℤ pos x -ℤ pos y ≡ z -ℤ pos (x + y)
less_sum z x y =
    +ℤ_assoc z (neg_ℤ (pos x)) (neg_ℤ (pos y))
    ∙ ap (λ (w : ℤ). z +ℤ w) (sym (neg_ℤ-+ℤ (pos x) (pos y)) ∙ ap neg_ℤ (pos-+ℤ-pos x y))

-- a difference is below zero exactly if it takes away the greater number
pub below_zero : (x y : ℕ) → negative (pos x -ℤ pos y) ≡ (x <? y)
below_zero x zero = rw (add-zero x)
below_zero x (suc y) = by (ltb x (suc y))
  where
    by : (t : Bool) → negative (cond t (negsuc (suc y - suc x)) (pos (x - suc y))) ≡ t
    by true = refl
    by false = leb-suc-zero (x - suc y)

-- below 2 ^ 63 a number's bits are those of the integer
plain : (x : ℕ) → x < 2 ^ 63 → to_z w64 x ≡ pos x
plain x h = rw (lt-ltb x (2 ^ 63) h)

-- an integer in range is what its bits say
pub read_back : (r z : ℤ) → mag r < 2 ^ 63 → r ≡ z → to_z w64 (of_z w64 r) ≡ z
read_back r z fits e = to_z-of_z {w = w64} (record { sfits = fits }) ∙ e

module _ (x y : ℕ) (small_x : x < 2 ^ 62) (small_y : y < 2 ^ 62) where
  bits : to_z w64 x -ℤ to_z w64 y ≡ pos x -ℤ pos y
  bits = rw (plain x (omega arith), plain y (omega arith))

  pub difference_fits : SFits w64 (to_z w64 x -ℤ to_z w64 y)
  difference_fits = rw bits (record { sfits = small x y small_x small_y })
    where
      of : (t : Bool) (m k : ℕ) → m < 2 ^ 63 → k < 2 ^ 63 → mag (cond t (negsuc m) (pos k)) < 2 ^ 63
      of true m k p q = p
      of false m k p q = q

      small : (x y : ℕ) → x < 2 ^ 62 → y < 2 ^ 62 → mag (pos x -ℤ pos y) < 2 ^ 63
      small x zero p q = omega arith
      small x (suc y) p q = of (ltb x (suc y)) (suc y - suc x) (x - suc y) (omega arith) (omega arith)

  pub difference_exact : to_z w64 (of_z w64 (to_z w64 x -ℤ to_z w64 y)) ≡ pos x -ℤ pos y
  difference_exact = to_z-of_z difference_fits ∙ bits
