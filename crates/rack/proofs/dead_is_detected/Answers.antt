-- The theorem, as the contract asks for it.
use Rattle.rack.proofs.Detection.{dead_is_detected_lem}
use Rattle.rack.proofs.dead_is_detected.Goals as goal

pub returns : goal.returns
returns c = dead_is_detected_lem
