-- What the private parts of a step are to give. The steps' own contracts cite none of this.
use Rattle.std.specs.Prelude.{ℕ, ◌≤◌, ◌<◌, true, ◌||◌, List, [], ◌∷◌, ◌≡◌, length}
use Rattle.words.specs.Tests.{◌≤?◌, ◌<?◌}
use Rattle.words.specs.Said.{Refusal, ◌when◌}
use Rattle.settings.specs.declared.Settings.{Settings}
use Rattle.settings.specs.Settings.{n, most_observers, most_leases}
use Rattle.messages.specs.Messages.{top_counter}
use Rattle.recorder_rules.specs.declared.Recorder.{Recorder}
use Rattle.recorder_rules.specs.declared.RecorderEvent.{RecorderEvent}
use Rattle.recorder_rules.specs.declared.RecorderEvent.TheVariants.{Tick, Grant, Drive}
use Rattle.recorder_rules.specs.Recorder.{is_zero, open_lease_count, leases, placed, due}

-- the observer's line and the grant's: what a grant's table has after that of every step
abbrev pub grant_lines : Settings → Recorder → (x j : ℕ) → List Refusal
grant_lines s rec x j = 5 when (n s ≤? x) ∷ 6 when (is_zero j || (rec.counter <? j)) ∷ []

-- what a tick knows of the record at its event: the leases stand in their places, and there is one more for the newest
pub record Roomy (s : Settings) (rec : Recorder) (reading : ℕ) : Type 0 where
  pub counter : rec.counter ≤ top_counter
  pub open_leases : length (leases rec) ≡ open_lease_count rec
  pub sends : rec.sends ≡ placed (leases rec)
  pub room : due s rec reading ≡ true → open_lease_count rec < most_leases

-- what an event knows of the record at it: a tick has its place, and so has a grant
abbrev pub Ready : Settings → Recorder → (reading : ℕ) → RecorderEvent → Type 0
Ready s rec reading Tick = Roomy s rec reading
Ready s rec reading (Grant x j) = x < most_observers
Ready s rec reading Drive = Unit {0}
