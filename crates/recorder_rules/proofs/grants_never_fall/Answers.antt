-- No place of a grant falls. Assumes nothing.
use Rattle.recorder_rules.proofs.Grants.{grants_never_fall_lem}
use Rattle.recorder_rules.proofs.grants_never_fall.Goals as goal

pub returns : goal.returns
returns c = grants_never_fall_lem
