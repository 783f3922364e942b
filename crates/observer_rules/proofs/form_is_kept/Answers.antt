-- The theorem, as the contract asks for it.
use Rattle.observer_rules.proofs.Laws.{form_is_kept_lem}
use Rattle.observer_rules.proofs.form_is_kept.Goals as goal

pub returns : goal.returns
returns c = form_is_kept_lem
