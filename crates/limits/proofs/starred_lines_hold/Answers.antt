-- The theorem, as the contract asks for it.
use Rattle.limits.proofs.Starred.{as_written}
use Rattle.limits.proofs.starred_lines_hold.Goals as goal

pub returns : goal.returns
returns c = as_written
