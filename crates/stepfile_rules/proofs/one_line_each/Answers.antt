-- The theorem, as the contract asks for it.
use Rattle.stepfile_rules.proofs.Claims.{one_line_each_lem}
use Rattle.stepfile_rules.proofs.one_line_each.Goals as goal

pub returns : goal.returns
returns c = one_line_each_lem
