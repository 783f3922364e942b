-- What the private parts of `stepfile` are to give. No promise cites any of this.
use Rattle.std.specs.Prelude.{ℕ, suc, List, [], ◌∷◌, if◌then◌else◌}
use Rattle.words.specs.Tests.{◌=?◌}
use Rattle.words.specs.Said.{Said}
use Rattle.words.specs.Said.Said.{refusal, gives}

-- the length of the first line
unfoldable pub line_length : List ℕ → ℕ
line_length [] = 0
line_length (byte ∷ bytes) = if byte =? 10 then 1 else suc (line_length bytes)

-- how much of the room a written line has taken
unfoldable pub length_said : Said ℕ → ℕ
length_said (refusal k values) = 0
length_said (gives k) = k
