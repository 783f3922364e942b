-- Bytes at a place of lent room, and words at the front of a slice.
use Rattle.std.specs.Prelude.{ℕ, suc, ◌+◌, List, [], ◌∷◌, ◌++◌, Bool, ◌&&◌, length, take, drop, if◌then◌else◌, Option, Some, None}
use Rattle.words.specs.Tests.{◌≤?◌, ◌=?◌}

-- The room with the bytes written from `at` on; as it was, where they do not fit.
unfoldable pub put_at : (room : List ℕ) (at : ℕ) (bytes : List ℕ) → List ℕ
put_at room at bytes =
    if at + length bytes ≤? length room then take at room ++ bytes ++ drop (at + length bytes) room
    else room

-- The place after them; `at` itself, where they do not fit.
unfoldable pub next_place : (room : List ℕ) (at : ℕ) (bytes : List ℕ) → ℕ
next_place room at bytes = if at + length bytes ≤? length room then at + length bytes else at

-- How many bytes two lists have in common at their fronts.
unfoldable pub agree : List ℕ → List ℕ → ℕ
agree s [] = 0
agree [] (letter ∷ letters) = 0
agree (byte ∷ bytes) (letter ∷ letters) = if byte =? letter then suc (agree bytes letters) else 0

-- the word stands at the front
unfoldable pub begins : (word s : List ℕ) → Bool
begins word s = agree s word =? length word

-- it is the word and nothing else
unfoldable pub is_exactly : (word s : List ℕ) → Bool
is_exactly word s = begins word s && (length s =? length word)

-- what stands behind the word, if the word stands at the front
unfoldable pub behind : (word s : List ℕ) → Option (List ℕ)
behind word s = if begins word s then Some (drop (length word) s) else None
