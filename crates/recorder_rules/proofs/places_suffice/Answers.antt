-- Counter and open leases stay within their bounds. Assumes nothing.
use Rattle.recorder_rules.proofs.Keeping.{places_suffice_lem}
use Rattle.recorder_rules.proofs.places_suffice.Goals as goal

pub returns : goal.returns
returns c = places_suffice_lem
