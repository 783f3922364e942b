-- The theorem, as the contract asks for it.
use Rattle.stepfile_rules.proofs.Lines.{all_of_it}
use Rattle.stepfile_rules.proofs.lines_make_the_file.Goals as goal

pub returns : goal.returns
returns c = all_of_it
