-- The theorem, as the contract asks for it.
use Rattle.lines_rules.proofs.RoundTrip.{read_is_written_lem}
use Rattle.lines_rules.proofs.read_is_written.Goals as goal

pub returns : goal.returns
returns c = read_is_written_lem
