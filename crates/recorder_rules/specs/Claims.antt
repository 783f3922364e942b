-- What every step of the recorder keeps, whatever its event. A refused step hands the record back, so each claim covers it too.
use Rattle.std.specs.Prelude.{ℕ, ◌+◌, ◌≤◌, ◌<◌, true, ◌⊎◌, ◌≡◌, length, drop, get_or}
use Rattle.settings.specs.declared.Settings.{Settings}
use Rattle.settings.specs.Settings.{most_observers, most_leases, refusal_of}
use Rattle.quorums.specs.Quorums.{survives}
use Rattle.messages.specs.Messages.{top_counter}
use Rattle.messages.specs.Answers.{refuses, says}
use Rattle.recorder_rules.specs.declared.Recorder.{Recorder}
use Rattle.recorder_rules.specs.declared.RecorderEvent.{RecorderEvent}
use Rattle.recorder_rules.specs.Recorder.{has_form, leases, oldest, open_lease_count, granted, has_ended, kept, step_of, fresh}

-- places for the leases and for the grants, as the struct has them
pub record Sized (rec : Recorder) : Type 0 where
  pub sends : length rec.sends ≡ most_leases
  pub grants : length rec.grants ≡ most_observers

-- A fresh record has the form, and every step leaves a record of the form: a host that starts fresh never meets refusal 3.
pub record FormIsKept : Type 0 where
  pub at_first : (s : Settings) → (has_form s fresh ≡ true) × Sized fresh
  pub by_steps : (s : Settings) (rec : Recorder) (r : ℕ) (event : RecorderEvent) → Sized rec → has_form s rec ≡ true
      → (has_form s (step_of s rec r event).rec ≡ true) × Sized (step_of s rec r event).rec
  pub no_three : (s : Settings) (rec : Recorder) (r : ℕ) (event : RecorderEvent) → has_form s rec ≡ true
      → (step_of s rec r event).answer ≡ refuses 3 → ⊥

-- A stopped recorder stays as it is, and says *stopped* or refuses.
abbrev pub StoppedStays : Type 0
StoppedStays =
    (s : Settings) (rec : Recorder) (r : ℕ) (event : RecorderEvent) → (rec.stopped ≡ 0 → ⊥)
    → ((step_of s rec r event).rec ≡ rec)
    × (((step_of s rec r event).answer ≡ says "stopped") ⊎ ((k : ℕ) × ((step_of s rec r event).answer ≡ refuses k)))

-- No observer's highest grant falls.
abbrev pub GrantsNeverFall : Type 0
GrantsNeverFall =
    (s : Settings) (rec : Recorder) (r : ℕ) (event : RecorderEvent) (x : ℕ)
    → get_or rec.grants x 0 ≤ get_or (step_of s rec r event).rec.grants x 0

-- The counter never passes 2^40, never falls, and the open leases never pass their places: slack c leaves room for the newest.
abbrev pub PlacesSuffice : Type 0
PlacesSuffice =
    (s : Settings) (rec : Recorder) (r : ℕ) (event : RecorderEvent) → Sized rec → has_form s rec ≡ true
    → ((step_of s rec r event).rec.counter ≤ top_counter)
    × (rec.counter ≤ (step_of s rec r event).rec.counter)
    × (open_lease_count (step_of s rec r event).rec ≤ most_leases)

-- The leases that are kept are the newest: those that end are the oldest.
abbrev pub NewestAreKept : Type 0
NewestAreKept =
    (s : Settings) (rec : Recorder) (r : ℕ) → refusal_of s ≡ 0 → has_form s rec ≡ true
    → (ended : ℕ) × (kept s r (leases rec) ≡ drop ended (leases rec))

-- A step that is not refused and leaves the recorder running has found, before its event, a survival quorum's grants of i + 1 for
-- every open lease i that has ended.
abbrev pub EndedWereRenewed : Type 0
EndedWereRenewed =
    (s : Settings) (rec : Recorder) (r : ℕ) (event : RecorderEvent)
    → ((refused : ℕ) → (step_of s rec r event).answer ≡ refuses refused → ⊥)
    → (step_of s rec r event).rec.stopped ≡ 0
    → (place : ℕ) → place < length (leases rec) → has_ended s r (get_or (leases rec) place 0) ≡ true
    → survives s (granted rec (oldest rec + place + 1)) ≡ true
