-- How long lines are: at most 44 bytes, and one has as many.
use Rattle.std.specs.Prelude.{if◌then◌else◌}
use Prim.Native.Nat.{ℕ, ◌≤◌}
use native.Mathlib.Omega.{arith}
use mathlib.Core.Path.{◌≡◌, refl, ap, ◌∙◌}
use mathlib.Core.Bool.{Bool, true, false, ◌&&◌, not}
use mathlib.Core.List.{List, [], ◌∷◌, ◌++◌}
use lib.ListN.{length, length-append}
use borrow.Author.Tests.{leb-true, ltb-true}
use Rattle.words.specs.Tests.{◌<?◌, ◌≤?◌}
use Rattle.words.specs.Lists.{text}
use Rattle.words.specs.Said.{refused}
use Rattle.words.specs.Said.Said.{gives}
use Rattle.words.proofs.Booleans.{both_hold}
use Rattle.decimals.specs.Decimals.{digits, digits_in}
use Rattle.decimals.proofs.Digits.{digits_most}
use Rattle.messages.specs.declared.Status.TheVariants.{Alive, Dead}
use Rattle.messages.specs.declared.Message.{Message}
use Rattle.messages.specs.declared.Message.TheVariants.{LeaseRequest, LeaseGrant, Check, CheckAck}
use Rattle.messages.specs.Messages.{top_counter, top_reading, fields_of, status_word, has_form}
use Rattle.lines_rules.specs.Writing.{longest_line, fitting, bytes_of, joined, line_of, two_numbers, write_said}
use Rattle.lines_rules.specs.Claims.{LongestLineIsEnough, LongestLineIsNeeded}
use Rattle.lines_rules.proofs.Lines.{fits_said, short_said, request_line, grant_line, check_line, alive_line, dead_line}

counter_most : (cnt : ℕ) → cnt ≤ top_counter → length (digits cnt) ≤ 13
counter_most cnt h = digits_most 12 cnt (omega arith)

reading_most : (ts : ℕ) → ts ≤ top_reading → length (digits ts) ≤ 13
reading_most ts h = digits_most 12 ts (omega arith)

one_most : (word : List ℕ) (n : ℕ) → length word ≤ 14 → length (digits n) ≤ 13
    → length (word ++ digits n ++ (10 ∷ [])) ≤ longest_line
one_most word n w d = simp length-append (omega arith)

ack_most : (ts cnt : ℕ) (end : List ℕ) → ((ts ≤? top_reading) && (cnt ≤? top_counter)) ≡ true → length end ≤ 7
    → length (two_numbers (text "CHECK-ACK\t") ts cnt end) ≤ longest_line
ack_most ts cnt end h l =
    let p = both_hold (ts ≤? top_reading) (cnt ≤? top_counter) h in
    let r = reading_most ts (leb-true ts top_reading p.0) in
    let c = counter_most cnt (leb-true cnt top_counter p.1) in
    simp length-append (omega arith)

pub line_most : (m : Message) → has_form m ≡ true → length (line_of m) ≤ longest_line
unfolding has_form
line_most (LeaseRequest cnt) h =
    rw (request_line cnt)
    (one_most (text "LEASE-REQUEST\t") cnt (omega arith)
    (counter_most cnt (leb-true cnt top_counter (both_hold (1 ≤? cnt) (cnt ≤? top_counter) h).1)))
line_most (LeaseGrant cnt) h =
    rw (grant_line cnt) (one_most (text "LEASE-GRANT\t") cnt (omega arith)
    (counter_most cnt (leb-true cnt top_counter (both_hold (1 ≤? cnt) (cnt ≤? top_counter) h).1)))
line_most (Check ts) h =
    rw (check_line ts) (one_most (text "CHECK\t") ts (omega arith) (reading_most ts (leb-true ts top_reading h)))
line_most (CheckAck ts cnt Alive) h = rw (alive_line ts cnt) (ack_most ts cnt (text "\tAlive\n") h (omega arith))
line_most (CheckAck ts cnt Dead) h = rw (dead_line ts cnt) (ack_most ts cnt (text "\tDead\n") h (omega arith))

pub longest_line_is_enough_lem : LongestLineIsEnough
unfolding write_said fitting
longest_line_is_enough_lem m room h e = by (has_form m) refl (length room <? length (line_of m)) refl e
  where
    by : (f : Bool) → has_form m ≡ f → (t : Bool) → (length room <? length (line_of m)) ≡ t
        → (if not f then refused 9 else (if t then refused 10 else gives (length (line_of m)))) ≡ refused 10 → ⊥
    by true f true t e = omega (arith, line_most m f, ltb-true (length room) (length (line_of m)) t)
    by true f false t e = let z : ◌≡◌ {A = ℕ} 0 1 = cc in omega arith
    by false f t q e = let z : ◌≡◌ {A = ℕ} 9 10 = cc in omega arith

longest : Message
longest = CheckAck top_reading top_counter Alive

longest_line_lem : length (line_of longest) ≡ longest_line
unfolding longest line_of joined bytes_of fields_of status_word digits digits_in
longest_line_lem = refl

pub longest_line_is_needed_lem : LongestLineIsNeeded
unfolding write_said has_form longest
longest_line_is_needed_lem = (
  longest,
  λ room h. short_said (line_of longest) room (omega (arith, longest_line_lem)),
  λ room h. fits_said (line_of longest) room (omega (arith, longest_line_lem)) ∙ ap gives longest_line_lem,
)
