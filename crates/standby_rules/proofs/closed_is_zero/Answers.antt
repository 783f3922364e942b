-- `standby_rules::closed_is_zero` meets its contract: the theorem.
use Rattle.standby_rules.proofs.Forms.{closed_is_zero_lem}
use Rattle.standby_rules.proofs.closed_is_zero.Goals as goal

pub returns : goal.returns
returns c = closed_is_zero_lem
