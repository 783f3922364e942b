-- Reading and writing undo one another, and 44 bytes are enough and needed.
use Rattle.std.specs.Prelude.{ℕ, ◌≤◌, ◌<◌, List, ◌++◌, ◌≡◌, length, take, drop}
use Rattle.words.specs.Said.{refused}
use Rattle.words.specs.Said.Said.{gives}
use Rattle.messages.specs.declared.Message.{Message}
use Rattle.lines_rules.specs.Reading.{read_line}
use Rattle.lines_rules.specs.Writing.{longest_line, write_said, write_room}

-- Whatever the room, the bytes of a line that was written are read as its message.
abbrev pub WrittenIsRead : Type 0
WrittenIsRead =
    (m : Message) (room : List ℕ) (k : ℕ) → write_said m room ≡ gives k → read_line (take k (write_room m room)) ≡ gives m

-- Bytes that are read as a message are what writing it gives, in any room that is no shorter.
abbrev pub ReadIsWritten : Type 0
ReadIsWritten =
    (s : List ℕ) (m : Message) → read_line s ≡ gives m → (room : List ℕ) → length s ≤ length room
    → (write_said m room ≡ gives (length s)) × (write_room m room ≡ s ++ drop (length s) room)

-- In room for the longest line no message gets 10.
abbrev pub LongestLineIsEnough : Type 0
LongestLineIsEnough = (m : Message) (room : List ℕ) → longest_line ≤ length room → write_said m room ≡ refused 10 → ⊥

-- In less, one does, and in so much it is written whole.
abbrev pub LongestLineIsNeeded : Type 0
LongestLineIsNeeded =
    (m : Message)
    × ((room : List ℕ) → length room < longest_line → write_said m room ≡ refused 10)
    × ((room : List ℕ) → longest_line ≤ length room → write_said m room ≡ gives longest_line)
