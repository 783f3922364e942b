-- The theorem, as the contract asks for it.
use Rattle.rack.proofs.Freedoms.{anything_may_happen_lem}
use Rattle.rack.proofs.anything_may_happen.Goals as goal

pub returns : goal.returns
returns c = anything_may_happen_lem
