-- Leases that stand η apart rise, so that those which end are the oldest: what is kept of them. Assumes nothing.
use Prim.Native.Nat.{ℕ, zero, suc, ◌+◌, ◌-◌, ◌*◌, ◌≤◌, ◌<◌}
use native.Mathlib.Nat.{suc-mul, zero-mul, not-suc-le-zero, le_of_suc-le-suc}
use native.Mathlib.Omega.{arith}
use mathlib.Core.Path.{◌≡◌, refl, ap, ◌∙◌}
use mathlib.Core.Bool.{true}
use mathlib.Core.List.{List, [], ◌∷◌, ◌++◌}
use lib.ListN.{length, get_or, drop}
use lib.Seq.{get_or-drop}
use borrow.Author.Tests.{leb-true, leb-false, ltb-true, ltb-false, le-leb}
use Rattle.words.specs.Tests.{◌≤?◌}
use Rattle.words.proofs.Booleans.{both_hold, whether}
use Rattle.words.proofs.Conditions.{holds_both}
use Rattle.settings.specs.declared.Settings.{Settings}
use Rattle.settings.specs.Settings.{η, P}
use Rattle.recorder_rules.specs.Recorder.{spaced, has_ended, kept}

module _ (apart : ℕ) where
  spaced_rest : (x : ℕ) (xs : List ℕ) → spaced apart (x ∷ xs) ≡ true → spaced apart xs ≡ true
  unfolding spaced
  spaced_rest x [] e = refl
  spaced_rest x (y ∷ ys) e = (both_hold (apart ≤? y - x) (spaced apart (y ∷ ys)) e).1

  spaced_drop : (k : ℕ) (xs : List ℕ) → spaced apart xs ≡ true → spaced apart (drop k xs) ≡ true
  unfolding spaced
  spaced_drop zero xs e = e
  spaced_drop (suc k) [] e = refl
  spaced_drop (suc k) (x ∷ xs) e = spaced_drop k xs (spaced_rest x xs e)

  -- one more, far enough after the last
  pub spaced_more : (xs : List ℕ) (z : ℕ) → spaced apart xs ≡ true → (1 ≤ length xs → apart ≤ z - get_or xs (length xs - 1) 0)
      → spaced apart (xs ++ (z ∷ [])) ≡ true
  unfolding spaced
  spaced_more [] z e h = refl
  spaced_more (x ∷ []) z e h = holds_both (le-leb _ _ (h (omega arith))) refl
  spaced_more (x ∷ (y ∷ ys)) z e h =
      let parts = both_hold (apart ≤? y - x) (spaced apart (y ∷ ys)) e in
      let last : suc (suc (length ys)) - 1 ≡ suc (length ys) = omega arith in
      let last_of_rest : suc (length ys) - 1 ≡ length ys = omega arith in
      let far = rw last at (h (omega arith)) in
      holds_both parts.0 (spaced_more (y ∷ ys) z parts.1 (λ some. rw last_of_rest far))

  -- each is as far below the next
  pub spaced_at : 1 ≤ apart → (xs : List ℕ) → spaced apart xs ≡ true → (i : ℕ) → suc i < length xs
      → get_or xs i 0 + apart ≤ get_or xs (suc i) 0
  unfolding spaced
  spaced_at h [] e i within = absurd (not-suc-le-zero within)
  spaced_at h (x ∷ []) e i within = absurd (not-suc-le-zero (le_of_suc-le-suc within))
  spaced_at h (x ∷ (y ∷ ys)) e zero within =
      let step = leb-true apart (y - x) (both_hold (apart ≤? y - x) (spaced apart (y ∷ ys)) e).0 in omega arith
  spaced_at h (x ∷ (y ∷ ys)) e (suc i) within =
      spaced_at h (y ∷ ys) (both_hold (apart ≤? y - x) (spaced apart (y ∷ ys)) e).1 i (le_of_suc-le-suc within)

  -- the first is as far below the last as their number makes it
  pub first_to_last : 1 ≤ apart → (x : ℕ) (xs : List ℕ) → spaced apart (x ∷ xs) ≡ true
      → x + length xs * apart ≤ get_or (x ∷ xs) (length xs) 0
  unfolding spaced
  first_to_last h x [] e = rw (zero-mul apart) (omega arith)
  first_to_last h x (y ∷ ys) e =
      let parts = both_hold (apart ≤? y - x) (spaced apart (y ∷ ys)) e in
      let rest = first_to_last h y ys parts.1 in
      let step = leb-true apart (y - x) parts.0 in
      rw (suc-mul (length ys) apart) (omega arith)

module _ (s : Settings) (r : ℕ) where
  pub kept_length : (xs : List ℕ) → length (kept s r xs) ≤ length xs
  unfolding kept
  kept_length [] = omega arith
  kept_length (x ∷ xs) =
      let rest = kept_length xs in
      whether (λ (l : List ℕ). length l ≤ suc (length xs)) (has_ended s r x) (λ _. omega (arith, rest))
      (λ _. omega (arith, rest))

  -- what is kept is young
  pub kept_young : (xs : List ℕ) (i : ℕ) → i < length (kept s r xs) → r - get_or (kept s r xs) i 0 < P s
  unfolding kept
  kept_young [] = λ i h. absurd (not-suc-le-zero h)
  kept_young (x ∷ xs) =
      whether (λ (l : List ℕ). (i : ℕ) → i < length l → r - get_or l i 0 < P s) (has_ended s r x) (λ over. kept_young xs)
      (λ lasts. with_first (kept s r xs) (omega (arith, leb-false, ltb-false, lasts)) (kept_young xs))
    where
      with_first : (ys : List ℕ) → r - x < P s → ((i : ℕ) → i < length ys → r - get_or ys i 0 < P s)
          → (i : ℕ) → i < suc (length ys) → r - get_or (x ∷ ys) i 0 < P s
      with_first ys young rest zero h = young
      with_first ys young rest (suc i) h = rest i (le_of_suc-le-suc h)

  -- a young one is kept
  pub kept_some : (xs : List ℕ) (i : ℕ) → i < length xs → r - get_or xs i 0 < P s → 1 ≤ length (kept s r xs)
  unfolding kept
  kept_some [] i h young = absurd (not-suc-le-zero h)
  kept_some (x ∷ xs) zero h young =
      whether (λ (l : List ℕ). 1 ≤ length l) (has_ended s r x)
      (λ over. let z : ⊥ = omega (arith, leb-true, ltb-true, over) in absurd z) (λ lasts. omega arith)
  kept_some (x ∷ xs) (suc i) h young =
      whether (λ (l : List ℕ). 1 ≤ length l) (has_ended s r x)
      (λ over. kept_some xs i (le_of_suc-le-suc h) young) (λ lasts. omega arith)

  -- after a young one all are young
  after_young : 1 ≤ η s → (x : ℕ) (xs : List ℕ) → spaced (η s) (x ∷ xs) ≡ true → r - x < P s → kept s r xs ≡ xs
  unfolding spaced kept
  after_young h x [] e young = refl
  after_young h x (y ∷ ys) e young =
      let parts = both_hold (η s ≤? y - x) (spaced (η s) (y ∷ ys)) e in
      let step = leb-true (η s) (y - x) parts.0 in
      let young' : r - y < P s = omega arith in
      whether (λ (l : List ℕ). l ≡ y ∷ ys) (has_ended s r y)
      (λ over. let z : ⊥ = omega (arith, leb-true, ltb-true, over) in absurd z)
      (λ lasts. ap (λ (l : List ℕ). y ∷ l) (after_young h y ys parts.1 young'))

  -- how many have ended
  abbrev pub ended : List ℕ → ℕ
  ended xs = length xs - length (kept s r xs)

  pub kept_newest : 1 ≤ η s → (xs : List ℕ) → spaced (η s) xs ≡ true → kept s r xs ≡ drop (ended xs) xs
  unfolding kept
  kept_newest h [] e = refl
  kept_newest h (x ∷ xs) e =
      whether (λ (l : List ℕ). l ≡ drop (suc (length xs) - length l) (x ∷ xs)) (has_ended s r x)
      (λ over.
      let fewer = kept_length xs in
      let one_more : suc (length xs) - length (kept s r xs) ≡ suc (ended xs) = omega arith in
      kept_newest h xs (spaced_rest (η s) x xs e) ∙ rw one_more)
      (λ lasts.
      let all = after_young h x xs e (omega (arith, leb-false, ltb-false, lasts)) in
      let none : suc (length xs) - suc (length xs) ≡ 0 = omega arith in
      rw (all, none))

  pub kept_spaced : 1 ≤ η s → (xs : List ℕ) → spaced (η s) xs ≡ true → spaced (η s) (kept s r xs) ≡ true
  kept_spaced h xs e = rw (kept_newest h xs e) (spaced_drop (η s) (ended xs) xs e)

  -- the last of them stays the last
  pub kept_last : 1 ≤ η s → (xs : List ℕ) → spaced (η s) xs ≡ true → 1 ≤ length (kept s r xs)
      → get_or (kept s r xs) (length (kept s r xs) - 1) 0 ≡ get_or xs (length xs - 1) 0
  kept_last h xs e some =
      let fewer = kept_length xs in
      let there : ended xs + (length (kept s r xs) - 1) ≡ length xs - 1 = omega arith in
      ap (λ (l : List ℕ). get_or l (length (kept s r xs) - 1) 0) (kept_newest h xs e)
      ∙ get_or-drop (ended xs) xs (length (kept s r xs) - 1) 0
      ∙ ap (λ (i : ℕ). get_or xs i 0) there

  -- those before them have ended
  pub ended_first : 1 ≤ η s → (xs : List ℕ) → spaced (η s) xs ≡ true → (i : ℕ) → i < ended xs → P s ≤ r - get_or xs i 0
  unfolding kept
  ended_first h [] e = λ i below. let z : ⊥ = omega arith in absurd z
  ended_first h (x ∷ xs) e =
      whether (λ (l : List ℕ). (i : ℕ) → i < suc (length xs) - length l → P s ≤ r - get_or (x ∷ xs) i 0) (has_ended s r x)
      (λ over. with_first (omega (arith, leb-true, ltb-true, over)) (ended_first h xs (spaced_rest (η s) x xs e)))
      (λ lasts i below.
      let all = ap length (after_young h x xs e (omega (arith, leb-false, ltb-false, lasts))) in
      let z : ⊥ = omega arith in
      absurd z)
    where
      with_first : P s ≤ r - x → ((i : ℕ) → i < ended xs → P s ≤ r - get_or xs i 0)
          → (i : ℕ) → i < suc (length xs) - length (kept s r xs) → P s ≤ r - get_or (x ∷ xs) i 0
      with_first over rest zero below = over
      with_first over rest (suc i) below = rest i (omega arith)
