-- What the loop that reads is to give, of any reader. No promise cites any of this.
use Rattle.std.specs.Prelude.{ℕ, ◌<◌, List, length, take, Option, Result, IfOk}
use Rattle.std.specs.Io.KnownBytes.{Consumes, IsAtEnd}

-- the front of the room holds the next bytes of what the reader had, all of them unless the room is full
abbrev pub ReadsWhole : {E : Type 0} → Option (List ℕ) → Option (List ℕ) → List ℕ → Result ℕ E → Type 0
ReadsWhole had has room input = IfOk input (λ count. Consumes had has (take count room) × (count < length room → IsAtEnd has))
