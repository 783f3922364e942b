-- The theorem, as the contract asks for it.
use Rattle.rack_shown.proofs.Shortcuts.{no_rounding_unsafe}
use Rattle.rack_shown.proofs.shortcut_no_rounding_is_unsafe.Goals as goal

pub returns : goal.returns
returns c = no_rounding_unsafe
