-- The theorem, as the contract asks for it.
use Rattle.observer_rules.proofs.Laws.{deadline_first_lem}
use Rattle.observer_rules.proofs.deadline_first.Goals as goal

pub returns : goal.returns
returns c = deadline_first_lem
