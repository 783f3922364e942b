-- `standby_rules::dead_in_window` meets its contract: the theorem.
use Rattle.standby_rules.proofs.Rounds.{dead_in_window_lem}
use Rattle.standby_rules.proofs.dead_in_window.Goals as goal

pub returns : goal.returns
returns c = dead_in_window_lem
