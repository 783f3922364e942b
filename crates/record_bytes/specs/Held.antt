-- The record in a buffer of any length. A call refuses a buffer of another size (rule 8.2) before it comes to these.
use Rattle.std.specs.Prelude.{ℕ, List, length, if◌then◌else◌}
use Rattle.words.specs.Tests.{◌=?◌}
use Rattle.recorder_rules.specs.declared.Recorder.{Recorder}
use Rattle.recorder_rules.specs.Recorder.{fresh}
use Rattle.firmware_rules.specs.Bytes.{record_bytes, decoded, encoded}

-- the record that the bytes hold, or a fresh one
unfoldable pub record_in : List ℕ → Recorder
record_in bytes = if length bytes =? record_bytes then decoded bytes else fresh

-- the bytes with the record put into them, or as they are
unfoldable pub with_record : List ℕ → Recorder → List ℕ
with_record bytes rec = if length bytes =? record_bytes then encoded rec else bytes
