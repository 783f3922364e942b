-- The theorem, as the contract asks for it.
use Rattle.rack_shown.proofs.Needed.{detection_needs_them}
use Rattle.rack_shown.proofs.detection_needs_its_premises.Goals as goal

pub returns : goal.returns
returns c = detection_needs_them
