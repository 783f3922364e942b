-- The theorem, as the contract asks for it.
use Rattle.rack.proofs.SomeRun.{some_run_tells_dead_lem}
use Rattle.rack.proofs.some_run_tells_dead.Goals as goal

pub returns : goal.returns
returns c = some_run_tells_dead_lem
