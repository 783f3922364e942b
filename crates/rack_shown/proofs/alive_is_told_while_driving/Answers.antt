-- The theorem, as the contract asks for it.
use Rattle.rack_shown.proofs.Shown.{alive_told_while_driving}
use Rattle.rack_shown.proofs.alive_is_told_while_driving.Goals as goal

pub returns : goal.returns
returns c = alive_told_while_driving
