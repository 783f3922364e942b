-- The theorem, as the contract asks for it.
use Rattle.lines_rules.proofs.RoundTrip.{written_is_read_lem}
use Rattle.lines_rules.proofs.written_is_read.Goals as goal

pub returns : goal.returns
returns c = written_is_read_lem
