-- The theorem, as the contract asks for it.
use Rattle.observer_rules.proofs.Laws.{grant_is_stored_lem}
use Rattle.observer_rules.proofs.grant_is_stored.Goals as goal

pub returns : goal.returns
returns c = grant_is_stored_lem
