-- Cites the law.
use Rattle.refusals.proofs.Apart.{told_apart_lem}
use Rattle.refusals.proofs.told_apart.Goals as goal

pub returns : goal.returns
returns c = told_apart_lem
