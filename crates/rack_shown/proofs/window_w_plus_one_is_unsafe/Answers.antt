-- The theorem, as the contract asks for it.
use Rattle.rack_shown.proofs.Shortcuts.{window_plus_one_unsafe}
use Rattle.rack_shown.proofs.window_w_plus_one_is_unsafe.Goals as goal

pub returns : goal.returns
returns c = window_plus_one_unsafe
