-- Laws of lines in room, and each message's line as the code makes it.
use Prim.Native.Nat.{ℕ, ◌≤◌, ◌<◌}
use mathlib.Core.Path.{◌≡◌, refl}
use mathlib.Core.List.{List, [], ◌∷◌, ◌++◌, append_assoc}
use lib.ListN.{length, drop}
use borrow.Author.Tests.{lt-ltb, le-ltb}
use Rattle.words.specs.Said.{refused}
use Rattle.words.specs.Said.Said.{gives}
use Rattle.words.specs.Lists.{text}
use Rattle.decimals.specs.Decimals.{digits}
use Rattle.messages.specs.declared.Status.TheVariants.{Alive, Dead}
use Rattle.messages.specs.declared.Message.TheVariants.{LeaseRequest, LeaseGrant, Check, CheckAck}
use Rattle.messages.specs.Messages.{fields_of, status_word}
use Rattle.lines_rules.specs.Writing.{fitting, filled, bytes_of, joined, line_of, two_numbers}

pub fits_said : (line room : List ℕ) → length line ≤ length room → fitting line room ≡ gives (length line)
unfolding fitting
fits_said line room h = rw (le-ltb (length room) (length line) h)

pub fits_room : (line room : List ℕ) → length line ≤ length room → filled line room ≡ line ++ drop (length line) room
unfolding filled
fits_room line room h = rw (le-ltb (length room) (length line) h)

pub short_said : (line room : List ℕ) → length room < length line → fitting line room ≡ refused 10
unfolding fitting
short_said line room h = rw (lt-ltb (length room) (length line) h)

pub short_room : (line room : List ℕ) → length room < length line → filled line room ≡ room
unfolding filled
short_room line room h = rw (lt-ltb (length room) (length line) h)

-- ---- each message's line as the code makes it

pub request_line : (cnt : ℕ) → line_of (LeaseRequest cnt) ≡ text "LEASE-REQUEST\t" ++ digits cnt ++ (10 ∷ [])
unfolding line_of joined bytes_of fields_of
request_line cnt = refl

pub grant_line : (cnt : ℕ) → line_of (LeaseGrant cnt) ≡ text "LEASE-GRANT\t" ++ digits cnt ++ (10 ∷ [])
unfolding line_of joined bytes_of fields_of
grant_line cnt = refl

pub check_line : (ts : ℕ) → line_of (Check ts) ≡ text "CHECK\t" ++ digits ts ++ (10 ∷ [])
unfolding line_of joined bytes_of fields_of
check_line ts = refl

pub alive_line : (ts cnt : ℕ) → line_of (CheckAck ts cnt Alive) ≡ two_numbers (text "CHECK-ACK\t") ts cnt (text "\tAlive\n")
unfolding line_of joined bytes_of fields_of status_word
alive_line ts cnt = simp append_assoc

pub dead_line : (ts cnt : ℕ) → line_of (CheckAck ts cnt Dead) ≡ two_numbers (text "CHECK-ACK\t") ts cnt (text "\tDead\n")
unfolding line_of joined bytes_of fields_of status_word
dead_line ts cnt = simp append_assoc
