-- What every step of the standby keeps, whatever its event and window, and what stands behind each verdict.
use Rattle.std.specs.Prelude.{ℕ, ◌-◌, ◌≤◌, ◌<◌, true, false, List, ◌≡◌, length, get_or}
use Rattle.settings.specs.declared.Settings.{Settings}
use Rattle.settings.specs.Settings.{most_observers}
use Rattle.quorums.specs.Quorums.{closes}
use Rattle.messages.specs.declared.Status.TheVariants.{Alive, Dead}
use Rattle.messages.specs.Answers.{refuses, says_of, says}
use Rattle.standby_rules.specs.declared.Place.{Place}
use Rattle.standby_rules.specs.declared.Standby.{Standby}
use Rattle.standby_rules.specs.declared.StandbyEvent.{StandbyEvent}
use Rattle.standby_rules.specs.declared.StandbyEvent.TheVariants.{Begin, Ack}
use Rattle.standby_rules.specs.Standby.{has_form, has_open_round, last_reading_of, closed, unused, kept_marks, greatest, verdict, keeping, step_within, fresh}

-- a place for each observer, as the struct has them
abbrev pub Sized : Standby → Type 0
Sized q = length q.places ≡ most_observers

-- A fresh record has the form, and every step leaves a record of the form; so a host that starts fresh never meets refusal 3.
pub record FormIsKept : Type 0 where
  pub at_first : (s : Settings) → (has_form s fresh ≡ true) × Sized fresh
  pub by_steps : (w : ℕ) (s : Settings) (q : Standby) (r : ℕ) (event : StandbyEvent) → Sized q → has_form s q ≡ true
      → (has_form s (step_within w s q r event).rec ≡ true) × Sized (step_within w s q r event).rec
  pub no_three : (w : ℕ) (s : Settings) (q : Standby) (r : ℕ) (event : StandbyEvent) → has_form s q ≡ true
      → (step_within w s q r event).answer ≡ refuses 3 → ⊥

-- A closed round is all zero but its last reading.
abbrev pub ClosedIsZero : Type 0
ClosedIsZero = (s : Settings) (q : Standby) → Sized q → has_form s q ≡ true → has_open_round q ≡ false → q ≡ closed (last_reading_of q)

-- the place x is kept
abbrev pub Kept : List Place → ℕ → Type 0
Kept places x = (get_or places x unused).kept ≡ true

-- m is the greatest counter kept, if anything is
pub record Greatest (places : List Place) (m : ℕ) : Type 0 where
  pub none_higher : (x : ℕ) → Kept places x → (get_or places x unused).counter ≤ m
  pub one_as_high : 0 < m → (x : ℕ) × Kept places x × ((get_or places x unused).counter ≡ m)

-- Dead m: some kept ack says Dead with m, and none is higher. Alive m: each kept ack with m says Alive.
-- Unknown: every kept counter is 0.
pub record VerdictsHold : Type 0 where
  pub is_greatest : (places : List Place) → Greatest places (greatest places)
  pub dead : (places : List Place) (m : ℕ) → verdict places ≡ says_of "dead" m
      → (0 < m) × (m ≡ greatest places)
      × ((x : ℕ) × Kept places x × ((get_or places x unused).counter ≡ m) × ((get_or places x unused).status ≡ Dead))
  pub alive : (places : List Place) (m : ℕ) → verdict places ≡ says_of "alive" m
      → (0 < m) × (m ≡ greatest places) × ((x : ℕ) → Kept places x → (get_or places x unused).counter ≡ m
      → (get_or places x unused).status ≡ Alive)
  pub unknown : (places : List Place) → verdict places ≡ says "unknown" → greatest places ≡ 0

-- Dead is said only on an ack of the open round, within the window, that makes a query quorum with those kept before; the
-- word is that quorum's verdict.
abbrev pub DeadInWindow : Type 0
DeadInWindow =
    (w : ℕ) (s : Settings) (q : Standby) (r : ℕ) (event : StandbyEvent) (m : ℕ)
    → (step_within w s q r event).answer ≡ says_of "dead" m
    → (x : ℕ) × (cnt : ℕ) × (status : Rattle.messages.specs.declared.Status.Status)
    × (event ≡ Ack x q.ts cnt status)
    × (r - q.ts ≤ w)
    × (closes s (kept_marks (keeping x cnt status q.places)) ≡ true)
    × (verdict (keeping x cnt status q.places) ≡ says_of "dead" m)

-- What is kept of an observer stays while its round goes on: a second ack changes nothing. Only a begin forgets.
abbrev pub KeptStays : Type 0
KeptStays =
    (w : ℕ) (s : Settings) (q : Standby) (r : ℕ) (event : StandbyEvent) (x : ℕ) → Kept q.places x
    → (event ≡ Begin → ⊥) → has_open_round (step_within w s q r event).rec ≡ true
    → get_or (step_within w s q r event).rec.places x unused ≡ get_or q.places x unused
