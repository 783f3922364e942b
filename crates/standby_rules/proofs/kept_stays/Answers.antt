-- `standby_rules::kept_stays` meets its contract: the theorem.
use Rattle.standby_rules.proofs.Rounds.{kept_stays_lem}
use Rattle.standby_rules.proofs.kept_stays.Goals as goal

pub returns : goal.returns
returns c = kept_stays_lem
