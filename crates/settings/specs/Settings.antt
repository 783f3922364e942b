-- The seven numbers, their ranges, the three slacks, the round window, and the refusals 1 and 2.
use Rattle.std.specs.Prelude.{ℕ, ◌*◌, ◌-◌, Bool, true, ◌&&◌, ◌||◌, not, List, [], ◌∷◌, ℤ, pos, ◌-ℤ◌, get_or}
use Rattle.std.specs.Int.Signed.{lt_z}
use Rattle.words.specs.Tests.{◌≤?◌}
use Rattle.words.specs.Said.{Refusal, first, ◌when◌}
use Rattle.settings.specs.declared.Settings.{Settings}
use Rattle.settings.specs.declared.Range.{Range}

-- the letters of rule 1.1
abbrev pub n : Settings → ℕ
n s = s.observers

abbrev pub t : Settings → ℕ
t s = s.survival

abbrev pub η : Settings → ℕ
η s = s.interval

abbrev pub Δ : Settings → ℕ
Δ s = s.timeliness

abbrev pub P : Settings → ℕ
P s = s.recorder_lease

abbrev pub O : Settings → ℕ
O s = s.observer_lease

abbrev pub G : Settings → ℕ
G s = s.grain

-- settings from the seven numbers, in the order of rule 1.1
abbrev pub settings : (n t η Δ P O G : ℕ) → Settings
settings n t η Δ P O G =
    record {
      observers = n;
      survival = t;
      interval = η;
      timeliness = Δ;
      recorder_lease = P;
      observer_lease = O;
      grain = G;
    }

-- the same from the seven as they stand in a row
abbrev pub settings_of : List ℕ → Settings
settings_of v = settings (get_or v 0 0) (get_or v 1 0) (get_or v 2 0) (get_or v 3 0) (get_or v 4 0) (get_or v 5 0) (get_or v 6 0)

-- The places of a record: one for each observer, and one for each lease that can be open at once.
abbrev pub most_observers : ℕ
most_observers = 16

abbrev pub most_leases : ℕ
most_leases = 64

-- the settings of the worked cases: W = 49, slacks 0, 0, 6241
abbrev pub usual : Settings
usual = settings 3 2 100 40 159 235 10

-- G - 1: by how much a reading can lie below its clock
abbrev pub rounding : Settings → ℕ
rounding s = G s - 1

-- The table of least and greatest values, one row a setting.
infix 70 ◌to◌
abbrev pub ◌to◌ : ℕ → ℕ → Range
l to g = record { least = l; greatest = g }

unfoldable pub ranges : List Range
ranges =
    1 to most_observers
    ∷ 1 to most_observers
    ∷ 1 to 1048576
    ∷ 1 to 1048576
    ∷ 1 to 16777216
    ∷ 1 to 16777216
    ∷ 1 to 1000
    ∷ []

abbrev pub values : Settings → List ℕ
values s = n s ∷ t s ∷ η s ∷ Δ s ∷ P s ∷ O s ∷ G s ∷ []

-- each value lies in its row
unfoldable pub each_in : List Range → List ℕ → Bool
each_in [] xs = true
each_in (row ∷ rows) [] = true
each_in (row ∷ rows) (x ∷ xs) = ((row.least ≤? x) && (x ≤? row.greatest)) && each_in rows xs

-- each value in its row, and t ≤ n
unfoldable pub in_range : Settings → Bool
in_range s = each_in ranges (values s) && (t s ≤? n s)

-- Three slacks, each of which may be below zero.
abbrev pub slack_a : Settings → ℤ
slack_a s = pos (P s) -ℤ pos (η s) -ℤ pos (Δ s) -ℤ pos (2 * rounding s) -ℤ pos 1

abbrev pub slack_b : Settings → ℤ
slack_b s = pos (O s) -ℤ pos (P s) -ℤ pos (Δ s) -ℤ pos (4 * rounding s)

abbrev pub slack_c : Settings → ℤ
slack_c s = pos (most_leases * η s) -ℤ pos (P s)

abbrev pub negative : ℤ → Bool
negative z = lt_z z (pos 0)

-- The first two lines of the table of refusals: settings in range are accepted exactly if no slack is below zero.
abbrev pub refusals : Settings → List Refusal
refusals s =
    1 when not (in_range s)
    ∷ 2 when (negative (slack_a s) || negative (slack_b s) || negative (slack_c s))
    ∷ []

unfoldable pub refusal_of : Settings → ℕ
refusal_of s = first (refusals s)

-- The round window W.
unfoldable pub window : Settings → ℕ
window s = O s - P s - 3 * rounding s
