-- The leases that end are the oldest. Assumes nothing.
use Rattle.recorder_rules.proofs.Staying.{newest_are_kept_lem}
use Rattle.recorder_rules.proofs.newest_are_kept.Goals as goal

pub returns : goal.returns
returns c = newest_are_kept_lem
