-- Lines: where one ends, and that all of them together are the file.
use Rattle.std.specs.Prelude.{if◌then◌else◌}
use Prim.Native.Nat.{ℕ, suc, ◌+◌, ◌≤◌, ◌<◌}
use native.Mathlib.Nat.{not-suc-le-zero}
use native.Mathlib.Numerals.{add-one}
use native.Mathlib.Omega.{arith}
use mathlib.Core.Path.{◌≡◌, refl, ap, ◌∙◌}
use mathlib.Core.Bool.{Bool, true, false}
use mathlib.Core.List.{List, [], ◌∷◌}
use lib.ListN.{length, take, drop, get_or}
use lib.Seq.{drop-cons}
use Rattle.words.specs.Tests.{◌=?◌}
use Rattle.stepfile_rules.specs.Lines.{onto, lines_of, together}
use Rattle.stepfile_rules.specs.Parts.{line_length}

-- a line feed ends the line
pub line_end : (s : List ℕ) (i : ℕ) → i < length s → (get_or s i 0 =? 10) ≡ true → line_length (drop i s) ≡ 1
unfolding line_length
line_end s i h e = rw (drop-cons s i 0 h, e)

-- any other byte goes on with it
pub line_next : (s : List ℕ) (i : ℕ) → i < length s → (get_or s i 0 =? 10) ≡ false
    → line_length (drop i s) ≡ suc (line_length (drop (i + 1) s))
unfolding line_length
line_next s i h e = rw (drop-cons s i 0 h, e, add-one i)

pub line_some : (s : List ℕ) → 0 < length s → 0 < line_length s
unfolding line_length
line_some [] h = h
line_some (byte ∷ bytes) h = by (byte =? 10)
  where
    by : (t : Bool) → 0 < (if t then 1 else suc (line_length bytes))
    by true = omega arith
    by false = omega arith

pub line_within : (s : List ℕ) → line_length s ≤ length s
unfolding line_length
line_within [] = omega arith
line_within (byte ∷ bytes) = by (byte =? 10) (line_within bytes)
  where
    by : (t : Bool) → line_length bytes ≤ length bytes → (if t then 1 else suc (line_length bytes)) ≤ suc (length bytes)
    by true h = omega arith
    by false h = omega arith

-- the first line, and the lines of what stands behind it
pub first_line : (s : List ℕ) → 0 < length s → lines_of s ≡ take (line_length s) s ∷ lines_of (drop (line_length s) s)
unfolding lines_of line_length onto
first_line [] h = absurd (not-suc-le-zero h)
first_line (byte ∷ []) h = by (byte =? 10)
  where
    by : (t : Bool) → (if t then (byte ∷ []) ∷ [] else (byte ∷ []) ∷ []) ≡ take (if t then 1 else 1) (byte ∷ []) ∷ lines_of
        (drop (if t then 1 else 1) (byte ∷ []))
    by true = refl
    by false = refl
first_line (byte ∷ (next ∷ bytes)) h = by (byte =? 10) (first_line (next ∷ bytes) (omega arith))
  where
    by : (t : Bool) → lines_of (next ∷ bytes) ≡ take (line_length (next ∷ bytes)) (next ∷ bytes) ∷ lines_of
        (drop (line_length (next ∷ bytes)) (next ∷ bytes))
        → (if t then (byte ∷ []) ∷ lines_of (next ∷ bytes) else onto byte (lines_of (next ∷ bytes)))
        ≡ take (if t then 1 else suc (line_length (next ∷ bytes))) (byte ∷ (next ∷ bytes)) ∷ lines_of
        (drop (if t then 1 else suc (line_length (next ∷ bytes))) (byte ∷ (next ∷ bytes)))
    by true e = refl
    by false e = rw e refl

pub together_onto : (byte : ℕ) (lines : List (List ℕ)) → together (onto byte lines) ≡ byte ∷ together lines
unfolding together onto
together_onto byte [] = refl
together_onto byte (line ∷ lines) = refl

pub all_of_it : (s : List ℕ) → together (lines_of s) ≡ s
unfolding together lines_of
all_of_it [] = refl
all_of_it (byte ∷ bytes) = by (byte =? 10) (all_of_it bytes)
  where
    by : (t : Bool) → together (lines_of bytes) ≡ bytes
        → together (if t then (byte ∷ []) ∷ lines_of bytes else onto byte (lines_of bytes)) ≡ byte ∷ bytes
    by true e = ap (λ (l : List ℕ). byte ∷ l) e
    by false e = together_onto byte (lines_of bytes) ∙ ap (λ (l : List ℕ). byte ∷ l) e
