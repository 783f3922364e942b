-- `standby_rules::form_is_kept` meets its contract: the theorem.
use Rattle.standby_rules.proofs.Forms.{form_is_kept_lem}
use Rattle.standby_rules.proofs.form_is_kept.Goals as goal

pub returns : goal.returns
returns c = form_is_kept_lem
