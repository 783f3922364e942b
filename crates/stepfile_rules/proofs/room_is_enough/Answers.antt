-- The theorem, as the contract asks for it.
use Rattle.stepfile_rules.proofs.Files.{enough}
use Rattle.stepfile_rules.proofs.room_is_enough.Goals as goal

pub returns : goal.returns
returns c = enough
