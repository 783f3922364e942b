-- The open leases, walked by an index i: those that lack grants and those that are kept; and a store at the first free
-- place.
use Rattle.std.specs.Prelude.{if◌then◌else◌}
use Prim.Native.Nat.{ℕ, suc, ◌+◌, ◌-◌, ◌≤◌, ◌<◌}
use native.Mathlib.Omega.{arith}
use native.Mathlib.Nat.{add_assoc}
use native.Mathlib.Numerals.{add-one}
use mathlib.Core.Path.{◌≡◌, refl, ap, ◌∙◌}
use mathlib.Core.Bool.{Bool, true, false, and-false}
use mathlib.Core.List.{List, [], ◌∷◌, ◌++◌, append_assoc, append-nil}
use lib.ListN.{length, take, drop, get_or, set, replicate, length-append, drop_of_length-le}
use lib.Seq.{take-suc, set_at}
use Rattle.words.proofs.Walks.{next}
use Rattle.settings.specs.declared.Settings.{Settings}
use Rattle.quorums.specs.Quorums.{survives}
use Rattle.recorder_rules.specs.declared.Recorder.{Recorder}
use Rattle.recorder_rules.specs.Recorder.{granted, has_ended, lacking_from, kept, placed}

-- ---- Leases that lack grants: one lease more that lacks none, since it has not ended or has them; one that does; and the end

module _ (s : Settings) (rec : Recorder) (r oldest : ℕ) (xs : List ℕ) (i : ℕ) {any : Bool}
    (to_come : any ≡ lacking_from s rec r (oldest + i) (drop i xs)) where
  pub lacking_kept : i < length xs → has_ended s r (get_or xs i 0) ≡ false
      → any ≡ lacking_from s rec r (oldest + (i + 1)) (drop (i + 1) xs)
  unfolding lacking_from
  lacking_kept h young = to_come ∙ rw (next 0 xs i h, young, ← (add_assoc oldest i 1))

  pub lacking_renewed : i < length xs → survives s (granted rec (oldest + i + 1)) ≡ true
      → any ≡ lacking_from s rec r (oldest + (i + 1)) (drop (i + 1) xs)
  unfolding lacking_from
  lacking_renewed h renewed = to_come ∙ rw (next 0 xs i h, renewed, and-false, ← (add_assoc oldest i 1))

  pub lacking_found : i < length xs → has_ended s r (get_or xs i 0) ≡ true → survives s (granted rec (oldest + i + 1)) ≡ false
      → any ≡ true
  unfolding lacking_from
  lacking_found h ended lacks = to_come ∙ rw (next 0 xs i h, ended, lacks)

  pub lacking_done : length xs ≤ i → any ≡ false
  unfolding lacking_from
  lacking_done h = to_come ∙ rw (drop_of_length-le xs {i = i} h)

-- ---- Leases that are kept

module _ (s : Settings) (r : ℕ) where
  kept_append : (xs : List ℕ) (y : ℕ) → kept s r (xs ++ (y ∷ [])) ≡ kept s r xs ++ kept s r (y ∷ [])
  unfolding kept
  kept_append [] y = refl
  kept_append (x ∷ xs) y = by (has_ended s r x) (kept_append xs y)
    where
      by : (b : Bool) → kept s r (xs ++ (y ∷ [])) ≡ kept s r xs ++ kept s r (y ∷ [])
          → (if b then kept s r (xs ++ (y ∷ [])) else x ∷ kept s r (xs ++ (y ∷ [])))
          ≡ (if b then kept s r xs else x ∷ kept s r xs) ++ kept s r (y ∷ [])
      by true e = e
      by false e = ap (λ (l : List ℕ). x ∷ l) e

  -- of one lease more
  pub kept_ended : (xs : List ℕ) (i : ℕ) → i < length xs → has_ended s r (get_or xs i 0) ≡ true
      → kept s r (take (i + 1) xs) ≡ kept s r (take i xs)
  unfolding kept
  kept_ended xs i h ended =
      rw (add-one i, take-suc xs i 0 h, kept_append (take i xs) (get_or xs i 0), ended) (append-nil (kept s r (take i xs)))

  pub kept_young : (xs : List ℕ) (i : ℕ) → i < length xs → has_ended s r (get_or xs i 0) ≡ false
      → kept s r (take (i + 1) xs) ≡ kept s r (take i xs) ++ (get_or xs i 0 ∷ [])
  unfolding kept
  kept_young xs i h young = rw (add-one i, take-suc xs i 0 h, kept_append (take i xs) (get_or xs i 0), young)

-- ---- One lease more in its place

pub placed_push : (xs : List ℕ) (x : ℕ) → length xs < 64 → set (placed xs) (length xs) x ≡ placed (xs ++ (x ∷ []))
placed_push xs x h =
    let e : 64 - length xs ≡ suc (64 - (length xs + 1)) = omega arith in
    rw (e, length-append xs (x ∷ []), append_assoc, set_at xs 0 (replicate (64 - (length xs + 1)) 0) x (length xs) refl)
