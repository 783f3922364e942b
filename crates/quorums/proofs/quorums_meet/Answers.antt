-- `quorums::quorums_meet` meets its contract: the theorem.
use Rattle.quorums.proofs.Quorums.{quorums_meet_lem}
use Rattle.quorums.proofs.quorums_meet.Goals as goal

pub returns : goal.returns
returns c = quorums_meet_lem
