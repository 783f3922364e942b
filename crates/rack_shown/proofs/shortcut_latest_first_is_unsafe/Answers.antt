-- The theorem, as the contract asks for it.
use Rattle.rack_shown.proofs.Shortcuts.{latest_first_unsafe}
use Rattle.rack_shown.proofs.shortcut_latest_first_is_unsafe.Goals as goal

pub returns : goal.returns
returns c = latest_first_unsafe
