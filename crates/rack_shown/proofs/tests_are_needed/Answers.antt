-- The theorem, as the contract asks for it.
use Rattle.rack_shown.proofs.Needed.{tests_are_needed_lem}
use Rattle.rack_shown.proofs.tests_are_needed.Goals as goal

pub returns : goal.returns
returns c = tests_are_needed_lem
