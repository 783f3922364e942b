-- Reading a message line (rule 6.5). A field's reader gets what the line holds from
-- there on.
use Rattle.std.specs.Prelude.{ℕ, Bool, true, false, List, drop, if◌then◌else◌, Result, Ok, Err}
use Rattle.words.specs.Lists.{text}
use Rattle.words.specs.Said.{Said, refused}
use Rattle.words.specs.Said.Said.{gives}
use Rattle.decimals.specs.declared.Number.{Number}
use Rattle.decimals.specs.declared.NoNumber.{NoNumber}
use Rattle.decimals.specs.Decimals.{no_number, number_at}
use Rattle.fields.specs.Places.{begins, is_exactly}
use Rattle.messages.specs.declared.Status.TheVariants.{Alive, Dead}
use Rattle.messages.specs.declared.Message.{Message}
use Rattle.messages.specs.declared.Message.TheVariants.{LeaseRequest, LeaseGrant, Check, CheckAck}
use Rattle.messages.specs.Messages.{top_counter, top_reading}

-- a number and the line feed that ends the line
unfoldable pub ended : List ℕ → Result Number NoNumber → Result Number NoNumber
ended s (Ok n) = if is_exactly (text "\n") (drop n.length s) then Ok n else no_number n.length
ended s (Err e) = Err e

unfoldable pub only_number : (allowed : Bool) (greatest : ℕ) → List ℕ → Result Number NoNumber
only_number allowed greatest s = ended s (number_at allowed greatest s)

-- the message that is made of that number, or 9
abbrev pub one_of : (ℕ → Message) → Result Number NoNumber → Said Message
one_of make (Ok n) = gives (make n.value)
one_of make (Err e) = refused 9

-- `CHECK-ACK ts cnt Alive` (or `Dead`), from the status' tab on
unfoldable pub read_ack_status : (ts cnt : ℕ) → List ℕ → Said Message
read_ack_status ts cnt s =
    if is_exactly (text "\tAlive\n") s then gives (CheckAck ts cnt Alive)
    else (if is_exactly (text "\tDead\n") s then gives (CheckAck ts cnt Dead)
    else refused 9)

-- from the counter's tab on
unfoldable pub status_behind : (ts : ℕ) → List ℕ → Result Number NoNumber → Said Message
status_behind ts s (Ok n) = read_ack_status ts n.value (drop n.length s)
status_behind ts s (Err e) = refused 9

unfoldable pub read_ack_counter : (ts : ℕ) → List ℕ → Said Message
read_ack_counter ts s =
    if begins (text "\t") s then status_behind ts (drop 1 s) (number_at true top_counter (drop 1 s)) else refused 9

-- from ts on
unfoldable pub counter_behind : List ℕ → Result Number NoNumber → Said Message
counter_behind s (Ok n) = read_ack_counter n.value (drop n.length s)
counter_behind s (Err e) = refused 9

unfoldable pub read_ack : List ℕ → Said Message
read_ack s = counter_behind s (number_at true top_reading s)

-- The line: `LEASE-REQUEST cnt`, `LEASE-GRANT cnt`, `CHECK ts`, `CHECK-ACK ts cnt Alive` (or `Dead`).
unfoldable pub read_line : List ℕ → Said Message
read_line s =
    if begins (text "LEASE-REQUEST\t") s then one_of LeaseRequest (only_number false top_counter (drop 14 s))
    else (if begins (text "LEASE-GRANT\t") s then one_of LeaseGrant (only_number false top_counter (drop 12 s))
    else (if begins (text "CHECK\t") s then one_of Check (only_number true top_reading (drop 6 s))
    else (if begins (text "CHECK-ACK\t") s then read_ack (drop 10 s)
    else refused 9)))
