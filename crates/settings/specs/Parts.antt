-- What being in range says of each number. The code's own parts ask for it; no promise does.
use Rattle.std.specs.Prelude.{◌≤◌}
use Rattle.settings.specs.declared.Settings.{Settings}
use Rattle.settings.specs.Settings.{n, t, η, Δ, P, O, G, most_observers}

-- settings that pass `in_range` have it
pub record InRange (s : Settings) : Type 0 where
  pub n_least : 1 ≤ n s
  pub n_greatest : n s ≤ most_observers
  pub t_least : 1 ≤ t s
  pub t_greatest : t s ≤ n s
  pub η_least : 1 ≤ η s
  pub η_greatest : η s ≤ 1048576
  pub Δ_least : 1 ≤ Δ s
  pub Δ_greatest : Δ s ≤ 1048576
  pub P_least : 1 ≤ P s
  pub P_greatest : P s ≤ 16777216
  pub O_least : 1 ≤ O s
  pub O_greatest : O s ≤ 16777216
  pub G_least : 1 ≤ G s
  pub G_greatest : G s ≤ 1000
