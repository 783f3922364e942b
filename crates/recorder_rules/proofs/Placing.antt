-- Leases in their 64 places: they can be read back, and the places behind them are 0. Assumes nothing.
use Prim.Native.Nat.{ℕ, zero, suc, ◌+◌, ◌-◌, ◌≤◌}
use native.Mathlib.Omega.{arith}
use mathlib.Core.Path.{◌≡◌, refl, sym, ap, ◌∙◌}
use mathlib.Core.List.{List}
use lib.ListN.{length, get_or, take, replicate, length-append, length-replicate}
use lib.Seq.{get_or-append-add, take-append_seam}
use Rattle.recorder_rules.specs.Recorder.{placed}

pub zeros : (k i : ℕ) → get_or {A = ℕ} (replicate k 0) i 0 ≡ 0
zeros zero i = refl
zeros (suc k) zero = refl
zeros (suc k) (suc i) = zeros k i

module _ (xs : List ℕ) where
  pub placed_length : length xs ≤ 64 → length (placed xs) ≡ 64
  placed_length h = length-append xs _ ∙ simp length-replicate (omega arith)

  pub placed_unused : (i : ℕ) → length xs ≤ i → get_or (placed xs) i 0 ≡ 0
  placed_unused i h =
      let there : length xs + (i - length xs) ≡ i = omega arith in
      ap (λ (j : ℕ). get_or (placed xs) j 0) (sym there)
      ∙ get_or-append-add xs _ (i - length xs) 0
      ∙ rw zeros

  pub placed_back : take (length xs) (placed xs) ≡ xs
  placed_back = take-append_seam xs _
