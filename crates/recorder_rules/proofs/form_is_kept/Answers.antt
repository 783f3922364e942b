-- Every step leaves a record of the form. Assumes nothing.
use Rattle.recorder_rules.proofs.Keeping.{form_is_kept_lem}
use Rattle.recorder_rules.proofs.form_is_kept.Goals as goal

pub returns : goal.returns
returns c = form_is_kept_lem
