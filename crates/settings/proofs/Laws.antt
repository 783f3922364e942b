-- What accepted settings are: each number in its range, the three slack inequalities, and the round window.
use Prim.Native.Nat.{ℕ, zero, suc, ◌+◌, ◌*◌, ◌<◌, ◌≤◌}
use native.Mathlib.Omega.{arith}
use native.Mathlib.Nat.{not-suc-le-zero, le_of_suc-le-suc}
use mathlib.Core.Path.{◌≡◌, refl, sym, ap, ◌∙◌}
use mathlib.Core.Bool.{Bool, true, false, ◌&&◌, ◌||◌}
use mathlib.Core.List.{List, [], ◌∷◌}
use lib.Dec.{lit<}
use lib.IntN.{ℤ, pos, ◌-ℤ◌}
use lib.ListN.{length, get_or}
use Rattle.std.specs.Prelude.{if◌then◌else◌, not}
use borrow.Author.Tests.{ne_eqb, leb-true, ltb-false, not-false}
use Rattle.words.specs.Tests.{◌<?◌, ◌≤?◌}
use Rattle.words.proofs.Booleans.{both_hold, neither_holds}
use Rattle.words.proofs.Said.{none_applies}
use Rattle.words.specs.Said.{first, refused}
use Rattle.words.specs.Said.Said.{gives}
use Rattle.refusals.proofs.Results.{same_given, same_refused, given_or_refused}
use Rattle.refusals.specs.declared.Refusal.{Refusal}
use Rattle.refusals.specs.Refusals.{number_of}
use Rattle.refusals.proofs.Apart.{some_number}
use Rattle.settings.specs.declared.Slacks.{Slacks}
use Rattle.settings.specs.Answers.{three, slacks_of, judged}
use Rattle.settings.specs.declared.Settings.{Settings}
use Rattle.settings.specs.declared.Range.{Range}
use Rattle.std.specs.List.{list_all}
use Rattle.std.specs.Prelude.{zip}
use Rattle.settings.specs.Settings.{n, t, η, Δ, P, O, rounding, ranges, values, each_in, in_range, slack_a, slack_b, slack_c, negative, refusal_of, window, ◌to◌}
use Rattle.settings.specs.Parts.{InRange}
use Rattle.settings.proofs.Signed.{less_sum, below_zero}

-- the rows and their values, one beside the other
pub each_zipped : (rows : List Range) (xs : List ℕ)
    → each_in rows xs ≡ list_all (λ p. (p.0.least ≤? p.1) && (p.1 ≤? p.0.greatest)) (zip rows xs)
unfolding each_in
each_zipped [] xs = refl
each_zipped (row ∷ rows) [] = refl
each_zipped (row ∷ rows) (x ∷ xs) = ap (◌&&◌ ((row.least ≤? x) && (x ≤? row.greatest))) (each_zipped rows xs)

-- values that passed lie in their rows: the first row, and by the row's number
first_row : (row : Range) (x : ℕ) (rows : List Range) (xs : List ℕ) → each_in (row ∷ rows) (x ∷ xs) ≡ true
    → ((row.least ≤ x) × (x ≤ row.greatest)) × (each_in rows xs ≡ true)
unfolding each_in
first_row row x rows xs e =
    let a = both_hold ((row.least ≤? x) && (x ≤? row.greatest)) (each_in rows xs) e in
    let b = both_hold (row.least ≤? x) (x ≤? row.greatest) a.0 in
    ((leb-true _ _ b.0, leb-true _ _ b.1), a.1)

within : (rows : List Range) (xs : List ℕ) → each_in rows xs ≡ true → (i : ℕ) → i < length rows → i < length xs
    → ((get_or rows i (0 to 0)).least ≤ get_or xs i 0) × (get_or xs i 0 ≤ (get_or rows i (0 to 0)).greatest)
within [] xs e i h k = absurd (not-suc-le-zero h)
within (row ∷ rows) [] e i h k = absurd (not-suc-le-zero k)
within (row ∷ rows) (x ∷ xs) e zero h k = (first_row row x rows xs e).0
within (row ∷ rows) (x ∷ xs) e (suc i) h k =
    within rows xs (first_row row x rows xs e).1 i (le_of_suc-le-suc h) (le_of_suc-le-suc k)

pub in_range_lem : (s : Settings) → in_range s ≡ true → InRange s
unfolding in_range ranges
in_range_lem s e =
    let a = both_hold (each_in ranges (values s)) (t s ≤? n s) e in
    let row = within ranges (values s) a.0 in
    let of_n = row 0 (lit< tt) (lit< tt) in
    let of_t = row 1 (lit< tt) (lit< tt) in
    let of_η = row 2 (lit< tt) (lit< tt) in
    let of_Δ = row 3 (lit< tt) (lit< tt) in
    let of_P = row 4 (lit< tt) (lit< tt) in
    let of_O = row 5 (lit< tt) (lit< tt) in
    let of_G = row 6 (lit< tt) (lit< tt) in
    record {
      n_least = of_n.0;
      n_greatest = of_n.1;
      t_least = of_t.0;
      t_greatest = leb-true _ _ a.1;
      η_least = of_η.0;
      η_greatest = of_η.1;
      Δ_least = of_Δ.0;
      Δ_greatest = of_Δ.1;
      P_least = of_P.0;
      P_greatest = of_P.1;
      O_least = of_O.0;
      O_greatest = of_O.1;
      G_least = of_G.0;
      G_greatest = of_G.1;
    }

-- each slack as one difference
module _ (s : Settings) where
  pub slack_a_difference : slack_a s ≡ pos (P s) -ℤ pos (η s + Δ s + 2 * rounding s + 1)
  slack_a_difference =
      ap (λ (z : ℤ). z -ℤ pos (2 * rounding s) -ℤ pos 1) (less_sum (pos (P s)) (η s) (Δ s))
      ∙ ap (λ (z : ℤ). z -ℤ pos 1) (less_sum (pos (P s)) (η s + Δ s) (2 * rounding s))
      ∙ less_sum (pos (P s)) (η s + Δ s + 2 * rounding s) 1

  pub slack_b_difference : slack_b s ≡ pos (O s) -ℤ pos (P s + Δ s + 4 * rounding s)
  slack_b_difference =
      ap (λ (z : ℤ). z -ℤ pos (4 * rounding s)) (less_sum (pos (O s)) (P s) (Δ s))
      ∙ less_sum (pos (O s)) (P s + Δ s) (4 * rounding s)

  -- a slack is negative exactly if its inequality fails
  A_negative : negative (slack_a s) ≡ (P s <? η s + Δ s + 2 * rounding s + 1)
  A_negative = ap negative slack_a_difference ∙ below_zero (P s) (η s + Δ s + 2 * rounding s + 1)

  B_negative : negative (slack_b s) ≡ (O s <? P s + Δ s + 4 * rounding s)
  B_negative = ap negative slack_b_difference ∙ below_zero (O s) (P s + Δ s + 4 * rounding s)

  C_negative : negative (slack_c s) ≡ (64 * η s <? P s)
  C_negative = below_zero (64 * η s) (P s)

-- the three inequalities: no slack is negative
pub record Accepted (s : Settings) : Type 0 where
  pub a : η s + Δ s + 2 * rounding s + 1 ≤ P s
  pub b : P s + Δ s + 4 * rounding s ≤ O s
  pub c : P s ≤ 64 * η s

-- no line of the table of refusals applies
pub passes : (s : Settings) → refusal_of s ≡ 0
    → (in_range s ≡ true) × ((negative (slack_a s) || negative (slack_b s) || negative (slack_c s)) ≡ false)
unfolding refusal_of
passes s e = (not-false _ (none_applies _ e refl 0), none_applies _ e refl 1)

pub accepted_in_range : (s : Settings) → refusal_of s ≡ 0 → InRange s
accepted_in_range s e = in_range_lem s (passes s e).0

pub accepted : (s : Settings) → refusal_of s ≡ 0 → Accepted s
accepted s e =
    let ab_c = neither_holds (negative (slack_a s) || negative (slack_b s)) (negative (slack_c s)) (passes s e).1 in
    let a_b = neither_holds (negative (slack_a s)) (negative (slack_b s)) ab_c.0 in
    record {
      a = ltb-false _ _ (sym (A_negative s) ∙ a_b.0);
      b = ltb-false _ _ (sym (B_negative s) ∙ a_b.1);
      c = ltb-false _ _ (sym (C_negative s) ∙ ab_c.1);
    }

pub window_law : (s : Settings) → refusal_of s ≡ 0 → window s + 3 * rounding s + P s ≡ O s
unfolding window
window_law s e = let slack = accepted s e in omega arith

-- settings that have no slacks are refused for what they have none for; those that have are in range
module _ (s : Settings) where
  pub without_slacks : {k : ℕ} → refused k ≡ slacks_of s → k ≡ refusal_of s
  unfolding refusal_of slacks_of first
  without_slacks {k} = by (in_range s) (three s) _
    where
      by : (b : Bool) (v : Slacks) (rest : ℕ) → refused k ≡ (if b then gives v else refused 1) → k ≡ (if not b then 1 else rest)
      by true v rest e = given_or_refused (sym e)
      by false v rest e = same_refused e

  pub with_slacks : {v : Slacks} → gives v ≡ slacks_of s → (in_range s ≡ true) × (v ≡ three s)
  unfolding slacks_of
  with_slacks {v} = by (in_range s)
    where
      by : (b : Bool) → gives v ≡ (if b then gives (three s) else refused 1) → (b ≡ true) × (v ≡ three s)
      by true e = (refl, same_given e)
      by false e = given_or_refused e

  -- in range, it is the slacks that decide
  pub by_slacks : {v : Slacks} → gives v ≡ slacks_of s
      → refusal_of s ≡ (if negative v.a || negative v.b || negative v.c then 2 else 0)
  unfolding refusal_of first
  by_slacks e = let of_s = with_slacks e in rw (of_s.0, of_s.1)

  -- what the settings answer, by their refusal
  pub judged_refused : {k : ℕ} → (k ≡ 0 → ⊥) → k ≡ refusal_of s → refused k ≡ judged s
  unfolding judged
  judged_refused some e = rw (← e, ne_eqb _ 0 some)

  pub refused_settings : (e : Refusal) → number_of e ≡ refusal_of s → refused (number_of e) ≡ judged s
  refused_settings e = judged_refused (some_number e)

  pub judged_accepted : {v : Slacks} → 0 ≡ refusal_of s → gives v ≡ slacks_of s
      → gives (record { window = window s; slacks = v }) ≡ judged s
  unfolding judged
  judged_accepted none e = rw (← none, (with_slacks e).1)
