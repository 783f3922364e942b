-- Rules 6.2 and 6.3: what each message holds.
use Rattle.std.specs.Prelude.{ℕ, ◌-◌, ◌^◌, Bool, ◌&&◌, List, [], ◌∷◌}
use Rattle.words.specs.Tests.{◌≤?◌}
use Rattle.words.specs.Lists.{text}
use Rattle.messages.specs.declared.Status.{Status}
use Rattle.messages.specs.declared.Status.TheVariants.{Alive, Dead}
use Rattle.messages.specs.declared.Message.{Message}
use Rattle.messages.specs.declared.Message.TheVariants.{LeaseRequest, LeaseGrant, Check, CheckAck}

-- the greatest counter
abbrev pub top_counter : ℕ
top_counter = 2 ^ 40

-- the greatest reading, and the greatest ts
abbrev pub top_reading : ℕ
top_reading = 2 ^ 40 - 1

-- A field of a line: a word, as its bytes, or a number.
pub data Field : Type 0 where
  word : List ℕ → Field
  number : ℕ → Field

unfoldable pub status_word : Status → Field
status_word Alive = word (text "Alive")
status_word Dead = word (text "Dead")

-- the words and numbers of each message, in order
unfoldable pub fields_of : Message → List Field
fields_of (LeaseRequest cnt) = word (text "LEASE-REQUEST") ∷ number cnt ∷ []
fields_of (LeaseGrant cnt) = word (text "LEASE-GRANT") ∷ number cnt ∷ []
fields_of (Check ts) = word (text "CHECK") ∷ number ts ∷ []
fields_of (CheckAck ts cnt status) = word (text "CHECK-ACK") ∷ number ts ∷ number cnt ∷ status_word status ∷ []

-- rule 6.3
unfoldable pub has_form : Message → Bool
has_form (LeaseRequest cnt) = (1 ≤? cnt) && (cnt ≤? top_counter)
has_form (LeaseGrant cnt) = (1 ≤? cnt) && (cnt ≤? top_counter)
has_form (Check ts) = ts ≤? top_reading
has_form (CheckAck ts cnt status) = (ts ≤? top_reading) && (cnt ≤? top_counter)
