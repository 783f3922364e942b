-- The theorem, as the contract asks for it.
use Rattle.rack.proofs.Safety.{dead_means_dead_lem}
use Rattle.rack.proofs.dead_means_dead.Goals as goal

pub returns : goal.returns
returns c = dead_means_dead_lem
