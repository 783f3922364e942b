-- Numbers in a row, each behind one tab (rule 7.4).
use Rattle.std.specs.Prelude.{ℕ, zero, suc, ◌+◌, true, List, drop, set, replicate, if◌then◌else◌, Option, Some, None, option_and_then, option_map, Result, Ok, Err}
use Rattle.std.specs.Result.{result_ok}
use Rattle.words.specs.Lists.{text}
use Rattle.decimals.specs.declared.Number.{Number}
use Rattle.decimals.specs.declared.NoNumber.{NoNumber}
use Rattle.decimals.specs.Decimals.{number_at}
use Rattle.fields.specs.Places.{begins}
use Rattle.step_lines.specs.declared.Row.{Row}
use Rattle.step_lines.specs.declared.Tabbed.{Tabbed}

-- the greatest number of a line
abbrev pub greatest_number : ℕ
greatest_number = 18446744073709551615

-- the row with that number as its k-th, which begins at `from`
unfoldable pub with_number : {n : ℕ} → (from k : ℕ) → Row n → Result Number NoNumber → Option (Row n)
with_number from k r (Ok number) = Some (record { behind = from + number.length; numbers = set r.numbers k number.value })
with_number from k r (Err missing) = None

-- the number that begins there, and the place behind it
abbrev pub tabbed_of : (from : ℕ) → Number → Tabbed
tabbed_of from n = record { value = n.value; behind = from + n.length }

-- the number behind the tab at that place
unfoldable pub tabbed_number : List ℕ → (at : ℕ) → Option Tabbed
tabbed_number s at =
    if begins (text "\t") (drop at s)
    then option_map (tabbed_of (at + 1)) (result_ok (number_at true greatest_number (drop (at + 1) s)))
    else None

-- the k-th number, behind its tab
unfoldable pub extended : {n : ℕ} → List ℕ → Row n → (k : ℕ) → Option (Row n)
extended s r k =
    if begins (text "\t") (drop r.behind s)
    then with_number (r.behind + 1) k r (number_at true greatest_number (drop (r.behind + 1) s))
    else None

-- the first `count` of the `all` numbers at the front
unfoldable pub row_begun : (all : ℕ) → List ℕ → (count : ℕ) → Option (Row all)
row_begun all s zero = Some (record { behind = 0; numbers = replicate all 0 })
row_begun all s (suc count) = option_and_then (λ r. extended s r count) (row_begun all s count)

-- `count` numbers at the front
unfoldable pub row : List ℕ → (count : ℕ) → Option (Row count)
row s count = row_begun count s count
