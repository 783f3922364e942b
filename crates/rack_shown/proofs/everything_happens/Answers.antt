-- The theorem, as the contract asks for it.
use Rattle.rack_shown.proofs.Freedoms.{everything_happens_lem}
use Rattle.rack_shown.proofs.everything_happens.Goals as goal

pub returns : goal.returns
returns c = everything_happens_lem
