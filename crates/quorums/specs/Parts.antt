-- What the private part of the quorum tests gives. Their own contracts cite none of this.
use Rattle.std.specs.Prelude.{ℕ, ◌+◌, ◌%◌, ◌^◌, Bool, ◌&&◌, List}
use Rattle.std.specs.List.{fold, enumerate_from}
use Rattle.std.specs.Int.{from_bool}
use Rattle.words.specs.Tests.{◌<?◌}

-- the count with one mark more, if its observer is one of the first m
abbrev pub with_mark : (m : ℕ) → ℕ → ℕ × Bool → ℕ
with_mark m count p = (count + from_bool ((p.0 <? m) && p.1)) % (2 ^ 64)

-- how many of the first m marks are set, as a chain counts them
abbrev pub counted_in_turn : (m : ℕ) → List Bool → ℕ
counted_in_turn m marks = fold (with_mark m) 0 (enumerate_from 0 marks)
