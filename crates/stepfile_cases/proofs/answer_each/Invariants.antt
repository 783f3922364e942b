-- Each turn leaves less of the input.
use Rattle.std.proofs.Common.{length}
use Rattle.stepfile_cases.proofs.answer_each.Given as goal

abbrev pub decreases-loop-rest : goal.decreases-loop-rest
decreases-loop-rest g l = length l.rest
