-- Rule 9.1: one common time, and each party's clock ahead of it or behind it by a fixed offset, rounded down by
-- less than the grain.
use Rattle.std.specs.Prelude.{ℕ, ◌+◌, Bool, ◌&&◌, ◌≡◌}
use Rattle.words.specs.Tests.{◌<?◌, ◌≤?◌}
use Rattle.settings.specs.declared.Settings.{Settings}
use Rattle.settings.specs.Settings.{G}

-- At common time g the clock, before rounding, shows `at g` less `behind`: an offset of either sign, in natural numbers.
-- It is given at every common time, not only where somebody reads it.
pub record Clock : Type 0 where
  pub behind : ℕ
  pub at : ℕ → ℕ
  pub steady : (g span : ℕ) → at (g + span) ≡ at g + span

-- r is a reading of the clock at time g: not above it, and less than G below it
unfoldable pub reads : Settings → Clock → (g r : ℕ) → Bool
reads s clock g r = (r + clock.behind ≤? clock.at g) && (clock.at g <? r + clock.behind + G s)

pub record Clocks : Type 0 where
  pub recorder : Clock
  pub standby : Clock
  pub observer : ℕ → Clock
