-- A stopped recorder stays as it is. Assumes nothing.
use Rattle.recorder_rules.proofs.Staying.{stopped_stays_lem}
use Rattle.recorder_rules.proofs.stopped_stays.Goals as goal

pub returns : goal.returns
returns c = stopped_stays_lem
