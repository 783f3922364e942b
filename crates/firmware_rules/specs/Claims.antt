-- A record and its 680 bytes are the same thing twice.
use Rattle.std.specs.Prelude.{ℕ, ◌^◌, Bool, true, List, ◌≡◌, length}
use Rattle.words.specs.Tests.{◌<?◌}
use Rattle.words.specs.Lists.{every}
use Rattle.recorder_rules.specs.declared.Recorder.{Recorder}
use Rattle.recorder_rules.specs.Claims.{Sized}
use Rattle.firmware_rules.specs.Bytes.{record_bytes, numbers_of, decoded, encoded}

-- what a byte and a word can hold
abbrev pub is_byte : ℕ → Bool
is_byte v = v <? 256

abbrev pub is_word : ℕ → Bool
is_word v = v <? 2 ^ 64

-- Encoding what was decoded gives the 680 bytes back.
abbrev pub BytesComeBack : Type 0
BytesComeBack = (bytes : List ℕ) → length bytes ≡ record_bytes → every is_byte bytes ≡ true → encoded (decoded bytes) ≡ bytes

-- Decoding what was encoded gives the record back.
abbrev pub RecordComesBack : Type 0
RecordComesBack = (rec : Recorder) → Sized rec → every is_word (numbers_of rec) ≡ true → decoded (encoded rec) ≡ rec
