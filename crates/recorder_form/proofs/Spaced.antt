-- The spacing of the open leases, pair by pair: each send reading beside the next.
use Prim.Native.Nat.{ℕ, ◌-◌}
use mathlib.Core.Path.{◌≡◌, refl, ap}
use mathlib.Core.Bool.{Bool, ◌&&◌}
use mathlib.Core.List.{List, [], ◌∷◌}
use Rattle.std.specs.Prelude.{drop, zip}
use Rattle.words.specs.Tests.{◌≤?◌}
use Rattle.words.specs.Lists.{every}
use Rattle.recorder_rules.specs.Recorder.{spaced}

pub in_pairs : (apart : ℕ) (xs : List ℕ) → every (λ (pair : ℕ × ℕ). apart ≤? pair.1 - pair.0) (zip xs (drop 1 xs)) ≡ spaced apart xs
unfolding spaced
in_pairs apart [] = refl
in_pairs apart (x ∷ []) = refl
in_pairs apart (x ∷ y ∷ zs) = ap (λ (b : Bool). (apart ≤? y - x) && b) (in_pairs apart (y ∷ zs))
