-- The theorem, as the contract asks for it.
use Rattle.firmware_rules.proofs.RoundTrip.{bytes_come_back_lem}
use Rattle.firmware_rules.proofs.bytes_come_back.Goals as goal

pub returns : goal.returns
returns c = bytes_come_back_lem
