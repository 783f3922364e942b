-- The theorem, as the contract asks for it.
use Rattle.rack_shown.proofs.Shown.{just_in_time}
use Rattle.rack_shown.proofs.one_exchange_just_in_time.Goals as goal

pub returns : goal.returns
returns c = just_in_time
