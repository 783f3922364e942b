-- The theorem, as the contract asks for it.
use Rattle.rack.proofs.Exchange.{one_exchange_ends_lem}
use Rattle.rack.proofs.one_exchange_ends.Goals as goal

pub returns : goal.returns
returns c = one_exchange_ends_lem
