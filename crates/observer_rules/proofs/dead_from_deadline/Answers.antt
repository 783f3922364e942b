-- The theorem, as the contract asks for it.
use Rattle.observer_rules.proofs.Laws.{dead_from_deadline_lem}
use Rattle.observer_rules.proofs.dead_from_deadline.Goals as goal

pub returns : goal.returns
returns c = dead_from_deadline_lem
