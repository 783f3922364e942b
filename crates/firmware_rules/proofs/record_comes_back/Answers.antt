-- The theorem, as the contract asks for it.
use Rattle.firmware_rules.proofs.RoundTrip.{record_comes_back_lem}
use Rattle.firmware_rules.proofs.record_comes_back.Goals as goal

pub returns : goal.returns
returns c = record_comes_back_lem
