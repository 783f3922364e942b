-- The theorem, as the contract asks for it.
use Rattle.rack_shown.proofs.Shown.{premises_needed}
use Rattle.rack_shown.proofs.premises_are_needed.Goals as goal

pub returns : goal.returns
returns c = premises_needed
