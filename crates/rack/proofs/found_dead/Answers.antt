-- The theorem, as the contract asks for it.
use Rattle.rack.proofs.Found.{found_dead_lem}
use Rattle.rack.proofs.found_dead.Goals as goal

pub returns : goal.returns
returns c = found_dead_lem
