-- Rule 6.1: decimals.
use Rattle.std.specs.Prelude.{ℕ, zero, suc, ◌+◌, ◌-◌, ◌*◌, ◌/◌, ◌%◌, Bool, ◌&&◌, ◌||◌, not, List, [], ◌∷◌, ◌++◌, if◌then◌else◌, Result, Ok, Err}
use Rattle.words.specs.Tests.{◌<?◌, ◌≤?◌, ◌=?◌}
use Rattle.decimals.specs.declared.Number.{Number}
use Rattle.decimals.specs.declared.NoNumber.{NoNumber}

-- The digit `0` is byte 48, `9` is 57.
abbrev pub is_digit : ℕ → Bool
is_digit byte = (48 ≤? byte) && (byte ≤? 57)

-- Writing: the digits of n, of which there are at most `count`.
unfoldable pub digits_in : (count : ℕ) → ℕ → List ℕ
digits_in zero n = []
digits_in (suc count) n = if n <? 10 then (48 + n) ∷ [] else digits_in count (n / 10) ++ ((48 + n % 10) ∷ [])

-- 2 ^ 64 - 1 has 20.
unfoldable pub digits : ℕ → List ℕ
digits n = digits_in 20 n

-- A number of `length` bytes; or none, the byte at `place` being one at which it could not go on.
abbrev pub number : (value length : ℕ) → Result Number NoNumber
number value length = Ok (record { value = value; length = length })

abbrev pub no_number : (place : ℕ) → Result Number NoNumber
no_number place = Err (record { place = place })

-- Reading, byte by byte. `value` has been read from i digits; what follows is the list.
unfoldable pub read_on : (greatest value i : ℕ) → List ℕ → Result Number NoNumber
read_on greatest value i [] = number value i
read_on greatest value i (byte ∷ bytes) =
    if not (is_digit byte) then number value i
    else (if (value =? 0) || (greatest <? value * 10 + (byte - 48)) then no_number i
    else read_on greatest (value * 10 + (byte - 48)) (i + 1) bytes)

-- The number at the front of a list: its value and its count of digits, or the place of the first byte at which no number
-- of the form, at most `greatest` and (unless `allowed`) not 0, could go on.
unfoldable pub number_at : (allowed : Bool) (greatest : ℕ) → List ℕ → Result Number NoNumber
number_at allowed greatest [] = no_number 0
number_at allowed greatest (byte ∷ bytes) =
    if not (is_digit byte) then no_number 0
    else (if ((byte - 48 =? 0) && not allowed) || (greatest <? byte - 48) then no_number 0
    else read_on greatest (byte - 48) 1 bytes)
