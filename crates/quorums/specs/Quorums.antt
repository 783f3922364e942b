-- The two quorum tests. A set of observers is a list of marks, one for each observer, by number.
-- Nothing else in the project speaks of t or of n - t + 1: listed quorums can stand behind the same two names.
use Rattle.std.specs.Prelude.{ℕ, ◌+◌, ◌-◌, ◌<◌, Bool, true, false, List, ◌≡◌, take, get_or}
use Rattle.words.specs.Tests.{◌≤?◌}
use Rattle.words.specs.Lists.{count_where}
use Rattle.settings.specs.declared.Settings.{Settings}
use Rattle.settings.specs.Settings.{n, t, refusal_of}

infix 40 ◌∋◌
-- observer x is in the set
abbrev pub ◌∋◌ : List Bool → ℕ → Type 0
set ∋ x = get_or set x false ≡ true

-- how many of the n observers are in the set
unfoldable pub members : Settings → List Bool → ℕ
members s set = count_where (λ mark. mark) (take (n s) set)

-- the set contains a survival quorum: any t observers
unfoldable pub survives : Settings → List Bool → Bool
survives s set = t s ≤? members s set

-- the set contains a query quorum: any n - t + 1 observers
unfoldable pub closes : Settings → List Bool → Bool
closes s set = n s - t s + 1 ≤? members s set

-- Under accepted settings a set that contains a survival quorum and one that contains a query quorum share an observer.
abbrev pub QuorumsMeet : Type 0
QuorumsMeet =
    (s : Settings) → refusal_of s ≡ 0 → (survivors queried : List Bool)
    → survives s survivors ≡ true → closes s queried ≡ true
    → (x : ℕ) × (x < n s) × (survivors ∋ x) × (queried ∋ x)

-- Adding observers to a set takes no quorum from it.
abbrev pub QuorumsGrow : Type 0
QuorumsGrow =
    (s : Settings) (set larger : List Bool) → ((x : ℕ) → x < n s → set ∋ x → larger ∋ x)
    → (survives s set ≡ true → survives s larger ≡ true) × (closes s set ≡ true → closes s larger ≡ true)
