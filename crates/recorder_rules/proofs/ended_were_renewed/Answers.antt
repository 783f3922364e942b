-- A step that goes on has found the ended leases renewed. Assumes nothing.
use Rattle.recorder_rules.proofs.Staying.{ended_were_renewed_lem}
use Rattle.recorder_rules.proofs.ended_were_renewed.Goals as goal

pub returns : goal.returns
returns c = ended_were_renewed_lem
