-- After i turns the first i words are put.
use mathlib.Core.Path.{◌≡◌}
use lib.ListN.{take}
use Rattle.fields.specs.Places.{put_at}
use Rattle.firmware_rules.specs.Bytes.{bytes_of}
use Rattle.record_bytes.proofs.put_words.Given as goal

abbrev pub invariant-loop-i : goal.invariant-loop-i
invariant-loop-i l = l.b ≡ put_at l.initial.b l.at (bytes_of (take l.i l.words))
