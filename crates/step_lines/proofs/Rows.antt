-- A row stays within its line.
use Rattle.std.specs.Prelude.{Result, Ok, Err, is_some, unwrap_or, Some, None, if◌then◌else◌, option_map, set}
use Rattle.std.specs.Result.{result_ok}
use Prim.Native.Nat.{ℕ, zero, suc, ◌+◌, ◌≤◌, ◌<◌}
use native.Mathlib.Omega.{arith}
use mathlib.Core.Path.{◌≡◌, refl, sym, ap, ◌∙◌}
use mathlib.Core.Bool.{Bool, true, false, true≢false}
use mathlib.Core.List.{List}
use lib.ListN.{length, drop, length-append, length-drop}
use lib.Seq.{drop-drop}
use borrow.Author.Tests.{eqb-true, eqb-false}
use Rattle.words.specs.Lists.{text}
use Rattle.words.specs.Tests.{◌=?◌}
use Rattle.decimals.specs.Decimals.{digits, number, number_at}
use Rattle.fields.specs.Places.{begins, behind}
use Rattle.fields.proofs.Rooms.{front, behind_some}
use Rattle.decimals.proofs.Reading.{read_digits}
use Rattle.step_lines.specs.declared.Row.{Row}
use Rattle.step_lines.specs.declared.Tabbed.{Tabbed}
use Rattle.decimals.specs.declared.Number.{Number}
use Rattle.decimals.specs.declared.NoNumber.{NoNumber}
use Rattle.step_lines.specs.Rows.{greatest_number, row_begun, extended, with_number, tabbed_of, tabbed_number}

-- a tab that stands at p is within the line
pub tab_within : (s : List ℕ) (p : ℕ) → begins (text "\t") (drop p s) ≡ true → p < length s
tab_within s p e =
    let l = ap length (front (text "\t") (drop p s) e) ∙ length-append (text "\t") (drop 1 (drop p s)) in
    let d = length-drop p s in
    omega (arith, l, d)

-- a number has no more digits than the part that it was read from has bytes
pub number_within : (s : List ℕ) (value count : ℕ) → number_at true greatest_number s ≡ number value count → count ≤ length s
number_within s value count e =
    let i = read_digits true greatest_number s value count (omega arith) e in
    let l = ap length i.front ∙ length-append (digits value) (drop count s) in
    omega (arith, l, i.count)

-- past the test a tab stands at p, and the part begins behind the tab
pub tabbed : (s : List ℕ) (p : ℕ) (rest part : List ℕ) → Some part ≡ behind (text "\t") rest → rest ≡ drop p s
    → (begins (text "\t") (drop p s) ≡ true) × (part ≡ drop (p + 1) s)
tabbed s p rest part e f =
    let b = behind_some (text "\t") (drop p s) part (e ∙ ap (behind (text "\t")) f) in
    (b.0, b.1 ∙ drop-drop 1 p s)

-- a number that was read
pub was_read : {A E : Type 0} (read : Result A E) (a : A) → Some a ≡ result_ok read → read ≡ Ok a
was_read (Ok b) a e = sym (ap (λ o. Ok (unwrap_or o a)) e)
was_read (Err missing) a e = absurd (true≢false (ap is_some e))

-- the row with one number more is the one that the next tab gives, put at its place
abbrev put_next : {n : ℕ} → Row n → (k : ℕ) → Tabbed → Row n
put_next r k t = record { behind = t.behind; numbers = set r.numbers k t.value }

pub extended_by : {n : ℕ} (s : List ℕ) (r : Row n) (k : ℕ) → extended s r k ≡ option_map (put_next r k) (tabbed_number s r.behind)
unfolding extended with_number tabbed_number
extended_by s r k = by (begins (text "\t") (drop r.behind s)) (number_at true greatest_number (drop (r.behind + 1) s))
  where
    by : (t : Bool) (v : Result Number NoNumber)
        → (if t then with_number (r.behind + 1) k r v else None)
        ≡ option_map (put_next r k) (if t then option_map (tabbed_of (r.behind + 1)) (result_ok v) else None)
    by true (Ok n) = refl
    by true (Err missing) = refl
    by false v = refl

-- where a number is missing, so is the row
pub none_stays : (all : ℕ) (s : List ℕ) (k count : ℕ) → k ≤ count → row_begun all s k ≡ None → row_begun all s count ≡ None
unfolding row_begun
none_stays all s k zero h e = let z : k ≡ 0 = omega arith in rw z at e
none_stays all s k (suc count) h e = by (k =? suc count) refl (none_stays all s k count)
  where
    by : (t : Bool) → (k =? suc count) ≡ t → (k ≤ count → row_begun all s k ≡ None → row_begun all s count ≡ None) → row_begun all s (suc count) ≡ None
    by true f earlier = rw (eqb-true k (suc count) f) at e
    by false f earlier = let apart = eqb-false k (suc count) f in rw (earlier (omega arith) e) refl
