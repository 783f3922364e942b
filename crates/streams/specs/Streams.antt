-- How much was read.
use Rattle.std.specs.Prelude.{ℕ, Result, Ok, Err}

-- so many bytes; of an input that could not be read, none
abbrev pub bytes_read : {E : Type 0} → Result ℕ E → ℕ
bytes_read (Ok count) = count
bytes_read (Err e) = 0
