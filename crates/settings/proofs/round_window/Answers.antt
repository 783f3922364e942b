-- `settings::round_window` meets its contract: rounding is taken away three times.
use Rattle.std.proofs.Common.{ℕ, ◌-◌, ◌*◌, ◌≡◌, arith}
use Rattle.settings.specs.Settings.{window}
use Rattle.settings.proofs.round_window.Goals as goal

-- one rounding after the other is taken away, or all three at once
thrice : (x r : ℕ) → x - r - r - r ≡ x - 3 * r
thrice x r = omega arith

pub returns : goal.returns
unfolding window
returns c =
    rw (
      c.less-3.ensures,
      c.less-2.ensures,
      c.less-once.ensures,
      c.less.ensures,
      c.rounding_of-rounding.ensures,
    ) (thrice _ _)
