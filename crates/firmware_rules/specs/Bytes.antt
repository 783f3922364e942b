-- Rule 8.1: a record's numbers in their order, as words of 8 bytes, the low byte first.
use Rattle.std.specs.Prelude.{ℕ, zero, suc, ◌+◌, ◌*◌, ◌/◌, ◌%◌, List, [], ◌∷◌, ◌++◌, take, drop, get_or}
use Rattle.settings.specs.Settings.{most_observers, most_leases}
use Rattle.recorder_rules.specs.declared.Recorder.{Recorder}
use Rattle.recorder_rules.specs.Recorder.{last_send_of, last_reading_of, open_lease_count}

-- the numbers of a record, and the bytes that they take
abbrev pub record_words : ℕ
record_words = 5 + most_leases + most_observers

abbrev pub record_bytes : ℕ
record_bytes = 8 * record_words

-- bytes as one number, the low byte first
unfoldable pub word_of : List ℕ → ℕ
word_of [] = 0
word_of (byte ∷ bytes) = byte + 256 * word_of bytes

-- a number as so many bytes
unfoldable pub bytes_in : (count : ℕ) → ℕ → List ℕ
bytes_in zero w = []
bytes_in (suc count) w = w % 256 ∷ bytes_in count (w / 256)

-- so many words at the front
unfoldable pub words_at : (count : ℕ) → List ℕ → List ℕ
words_at zero bytes = []
words_at (suc count) bytes = word_of (take 8 bytes) ∷ words_at count (drop 8 bytes)

unfoldable pub bytes_of : List ℕ → List ℕ
bytes_of [] = []
bytes_of (w ∷ ws) = bytes_in 8 w ++ bytes_of ws

-- the 85 numbers in order
abbrev pub numbers_of : Recorder → List ℕ
numbers_of rec = rec.stopped ∷ rec.counter ∷ last_send_of rec ∷ last_reading_of rec ∷ open_lease_count rec ∷ (rec.sends ++ rec.grants)

abbrev pub record_of : List ℕ → Recorder
record_of ws =
    record {
      stopped = get_or ws 0 0;
      counter = get_or ws 1 0;
      last_send = get_or ws 2 0;
      last_reading = get_or ws 3 0;
      open_leases = get_or ws 4 0;
      sends = take most_leases (drop 5 ws);
      grants = drop (5 + most_leases) ws;
    }

unfoldable pub decoded : List ℕ → Recorder
decoded bytes = record_of (words_at record_words bytes)

unfoldable pub encoded : Recorder → List ℕ
encoded rec = bytes_of (numbers_of rec)
