-- The theorem, as the contract asks for it.
use Rattle.rack.proofs.NeverRefused.{recorder_is_never_refused_lem}
use Rattle.rack.proofs.recorder_is_never_refused.Goals as goal

pub returns : goal.returns
returns c = recorder_is_never_refused_lem
