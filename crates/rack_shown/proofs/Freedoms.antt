-- The run of specs/Freedoms.antt computes to what is written in it.
use mathlib.Core.Path.{refl}
use Rattle.rack_shown.proofs.Computing.{computing}
use Rattle.rack_shown.specs.Freedoms.{everything, EverythingHappens}

pub everything_happens_lem : EverythingHappens
unfolding computing everything
everything_happens_lem = record { accepted = refl; is_run_lem = refl; answers = refl }
