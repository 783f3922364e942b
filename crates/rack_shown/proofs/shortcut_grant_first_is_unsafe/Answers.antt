-- The theorem, as the contract asks for it.
use Rattle.rack_shown.proofs.Shortcuts.{grant_first_unsafe}
use Rattle.rack_shown.proofs.shortcut_grant_first_is_unsafe.Goals as goal

pub returns : goal.returns
returns c = grant_first_unsafe
