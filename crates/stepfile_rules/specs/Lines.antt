-- The lines of a file. Each ends behind its line feed (10); bytes behind the last one are a line too.
use Rattle.std.specs.Prelude.{ℕ, List, [], ◌∷◌, ◌++◌, if◌then◌else◌}
use Rattle.words.specs.Tests.{◌=?◌}

-- one byte more at the front of the first line
unfoldable pub onto : ℕ → List (List ℕ) → List (List ℕ)
onto byte [] = (byte ∷ []) ∷ []
onto byte (line ∷ lines) = (byte ∷ line) ∷ lines

unfoldable pub lines_of : List ℕ → List (List ℕ)
lines_of [] = []
lines_of (byte ∷ bytes) = if byte =? 10 then (byte ∷ []) ∷ lines_of bytes else onto byte (lines_of bytes)

-- lines put together
unfoldable pub together : List (List ℕ) → List ℕ
together [] = []
together (line ∷ lines) = line ++ together lines
