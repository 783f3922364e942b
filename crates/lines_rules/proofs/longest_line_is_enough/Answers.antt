-- The theorem, as the contract asks for it.
use Rattle.lines_rules.proofs.Bounds.{longest_line_is_enough_lem}
use Rattle.lines_rules.proofs.longest_line_is_enough.Goals as goal

pub returns : goal.returns
returns c = longest_line_is_enough_lem
