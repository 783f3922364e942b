-- The theorem, as the contract asks for it.
use Rattle.rack_shown.proofs.Shown.{bound_is_met}
use Rattle.rack_shown.proofs.detection_bound_is_met.Goals as goal

pub returns : goal.returns
returns c = bound_is_met
