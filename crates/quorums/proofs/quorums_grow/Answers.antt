-- `quorums::quorums_grow` meets its contract: the theorem.
use Rattle.quorums.proofs.Quorums.{quorums_grow_lem}
use Rattle.quorums.proofs.quorums_grow.Goals as goal

pub returns : goal.returns
returns c = quorums_grow_lem
