-- Writing a message line (rules 6.1 to 6.4): words and numbers, parted by one tab, ended by one line feed.
use Rattle.std.specs.Prelude.{ℕ, not, List, [], ◌∷◌, ◌++◌, map, length, drop, if◌then◌else◌}
use Rattle.words.specs.Tests.{◌<?◌}
use Rattle.words.specs.Lists.{text}
use Rattle.words.specs.Said.{Said, refused}
use Rattle.words.specs.Said.Said.{gives}
use Rattle.decimals.specs.Decimals.{digits}
use Rattle.messages.specs.declared.Message.{Message}
use Rattle.messages.specs.Messages.{Field, fields_of, has_form}
use Rattle.messages.specs.Messages.Field.{word, number}

-- a word as it is, a number in decimal
unfoldable pub bytes_of : Field → List ℕ
bytes_of (word w) = w
bytes_of (number n) = digits n

-- fields parted by one tab (9), ended by one line feed (10)
unfoldable pub joined : List (List ℕ) → List ℕ
joined [] = 10 ∷ []
joined (f ∷ []) = f ++ (10 ∷ [])
joined (f ∷ (g ∷ fs)) = f ++ (9 ∷ joined (g ∷ fs))

unfoldable pub line_of : Message → List ℕ
line_of m = joined (map bytes_of (fields_of m))

-- the bytes of the longest line
abbrev pub longest_line : ℕ
longest_line = 44

-- a line into room: its length, or 10
unfoldable pub fitting : (line room : List ℕ) → Said ℕ
fitting line room = if length room <? length line then refused 10 else gives (length line)

-- room behind a written line is not touched, and no byte of it where the line does not fit
unfoldable pub filled : (line room : List ℕ) → List ℕ
filled line room = if length room <? length line then room else line ++ drop (length line) room

-- the lines as the code writes them: a word with its tab and one number; or two numbers, and an end in one piece
abbrev pub one_number : (front : List ℕ) (k : ℕ) → List ℕ
one_number front k = front ++ digits k ++ text "\n"

abbrev pub two_numbers : (front : List ℕ) (first second : ℕ) (end : List ℕ) → List ℕ
two_numbers front first second end = front ++ digits first ++ text "\t" ++ digits second ++ end

-- Any message, any room: 9 for a message not of the form, whatever the room; then 10; else the length.
unfoldable pub write_said : Message → List ℕ → Said ℕ
write_said m room = if not (has_form m) then refused 9 else fitting (line_of m) room

unfoldable pub write_room : Message → List ℕ → List ℕ
write_room m room = if not (has_form m) then room else filled (line_of m) room
