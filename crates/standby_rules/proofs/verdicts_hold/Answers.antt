-- `standby_rules::verdicts_hold` meets its contract: the theorem.
use Rattle.standby_rules.proofs.Verdicts.{verdicts_hold_lem}
use Rattle.standby_rules.proofs.verdicts_hold.Goals as goal

pub returns : goal.returns
returns c = verdicts_hold_lem
