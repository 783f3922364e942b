-- The theorem, as the contract asks for it.
use Rattle.messages.proofs.Apart.{answers_told_apart_lem}
use Rattle.messages.proofs.answers_told_apart.Goals as goal

pub returns : goal.returns
returns c = answers_told_apart_lem
