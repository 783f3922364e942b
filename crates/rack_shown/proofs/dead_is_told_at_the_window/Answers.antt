-- The theorem, as the contract asks for it.
use Rattle.rack_shown.proofs.Shown.{dead_told_at_the_window}
use Rattle.rack_shown.proofs.dead_is_told_at_the_window.Goals as goal

pub returns : goal.returns
returns c = dead_told_at_the_window
