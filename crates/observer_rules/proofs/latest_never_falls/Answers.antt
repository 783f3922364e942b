-- The theorem, as the contract asks for it.
use Rattle.observer_rules.proofs.Laws.{latest_never_falls_lem}
use Rattle.observer_rules.proofs.latest_never_falls.Goals as goal

pub returns : goal.returns
returns c = latest_never_falls_lem
