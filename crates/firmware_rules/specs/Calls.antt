-- What a C call returns and what it leaves in the buffer, for every buffer.
use Rattle.std.specs.Prelude.{ℕ, not, List, [], ◌∷◌, ◌++◌, length, if◌then◌else◌}
use Rattle.words.specs.Tests.{◌=?◌}
use Rattle.words.specs.Lists.{text}
use Rattle.words.specs.Said.{Said, Refusal, first, ◌when◌}
use Rattle.words.specs.Said.Said.{refusal, gives}
use Rattle.settings.specs.declared.Settings.{Settings}
use Rattle.settings.specs.Settings.{refusals}
use Rattle.fields.specs.Places.{is_exactly}
use Rattle.messages.specs.Messages.{Field}
use Rattle.messages.specs.Messages.Field.{word, number}
use Rattle.messages.specs.Answers.{Sending, nothing, message, Spoken, giving, is_refusal}
use Rattle.messages.specs.Outcomes.{Outcome}
use Rattle.recorder_rules.specs.declared.Recorder.{Recorder}
use Rattle.recorder_rules.specs.declared.RecorderEvent.{RecorderEvent}
use Rattle.recorder_rules.specs.Recorder.{step_of}
use Rattle.firmware_rules.specs.Bytes.{record_bytes, decoded, encoded}

-- the number returned, and every byte afterwards
pub record Called : Type 0 where
  pub code : ℕ
  pub bytes : List ℕ

-- the word that an answer begins with
unfoldable pub word_in : List Field → List ℕ
word_in [] = []
word_in (word w ∷ fields) = w
word_in (number k ∷ fields) = []

-- the refusal's number, or 100 unregistered, 101 running, 102 stopped, 103 request to send
unfoldable pub code_of_given : Sending → (word : List ℕ) → ℕ
code_of_given (message m) w = 103
code_of_given nothing w =
    if is_exactly (text "unregistered") w then 100
    else (if is_exactly (text "running") w then 101
    else 102)

unfoldable pub code_of : Said Spoken → ℕ
code_of (refusal k values) = k
code_of (gives (giving sending words)) = code_of_given sending (word_in words)

-- a buffer of another size holds no record: after 1 and 2 it gets 10
abbrev pub call_refusals : Settings → List ℕ → List Refusal
call_refusals s bytes = refusals s ++ (10 when not (length bytes =? record_bytes) ∷ [])

-- a step that is refused writes no byte
unfoldable pub left_by : List ℕ → Outcome Recorder → Called
left_by bytes o = record { code = code_of o.answer; bytes = if is_refusal o.answer then bytes else encoded o.rec }

unfoldable pub called : Settings → List ℕ → (r : ℕ) → RecorderEvent → Called
called s bytes r event =
    if first (call_refusals s bytes) =? 0 then left_by bytes (step_of s (decoded bytes) r event)
    else record { code = first (call_refusals s bytes); bytes = bytes }
