-- The theorem, as the contract asks for it.
use Rattle.rack_shown.proofs.Shortcuts.{two_grains_unsafe}
use Rattle.rack_shown.proofs.shortcut_two_grains_is_unsafe.Goals as goal

pub returns : goal.returns
returns c = two_grains_unsafe
