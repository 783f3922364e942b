-- What only the code's own readers need.
use Rattle.std.specs.Prelude.{ℕ, Result, Ok, Err}
use Rattle.decimals.specs.declared.Number.{Number}
use Rattle.decimals.specs.declared.NoNumber.{NoNumber}
use Rattle.refusals.specs.declared.Refusal.{Refusal}
use Rattle.refusals.specs.declared.Refusal.TheVariants.{BadLine}

-- the number's value, or 9
abbrev pub value_of : Result Number NoNumber → Result ℕ Refusal
value_of (Ok n) = Ok n.value
value_of (Err e) = Err BadLine
