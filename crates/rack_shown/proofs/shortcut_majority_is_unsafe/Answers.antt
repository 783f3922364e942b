-- The theorem, as the contract asks for it.
use Rattle.rack_shown.proofs.Shortcuts.{majority_unsafe}
use Rattle.rack_shown.proofs.shortcut_majority_is_unsafe.Goals as goal

pub returns : goal.returns
returns c = majority_unsafe
