-- The answers to a step file, line by line.
use Rattle.std.specs.Prelude.{ℕ, ◌*◌, List, [], ◌∷◌, ◌++◌, length, drop, if◌then◌else◌, Option, Some, None}
use Rattle.words.specs.Tests.{◌<?◌, ◌=?◌}
use Rattle.words.specs.Said.{Said, refused}
use Rattle.words.specs.Said.Said.{gives}
use Rattle.settings.specs.Settings.{refusal_of}
use Rattle.messages.specs.Answers.{refuses}
use Rattle.settings.specs.declared.Settings.{Settings}
use Rattle.step_lines.specs.Reading.{settings_line, step_line}
use Rattle.answer_lines.specs.Answers.{answer_line, settings_answer}
use Rattle.session.specs.declared.Session.{Session}
use Rattle.session.specs.Session.{started, perform_of}
use Rattle.stepfile_rules.specs.Lines.{lines_of}

-- rule 7.5: a step's answer, and the records carried on to the next line. A later SETTINGS line is no step
-- line, and neither is a last one without line feed: both get 9.
unfoldable pub answers_to : Session → List (List ℕ) → List ℕ
answers_to session [] = []
answers_to session (line ∷ lines) =
    answer_line (perform_of session (step_line line)).answer ++ answers_to (perform_of session (step_line line)).rec lines

-- rules 7.7 and 7.8: settings that are refused end the run, and so does a first line that gives none
unfoldable pub after_settings : Option Settings → List (List ℕ) → List ℕ
after_settings (Some s) lines = settings_answer s ++ (if refusal_of s =? 0 then answers_to (started s) lines else [])
after_settings None lines = answer_line (refuses 9)

-- rule 7.10: empty input gets nothing
unfoldable pub answers_of : List (List ℕ) → List ℕ
answers_of [] = []
answers_of (line ∷ lines) = after_settings (settings_line line) lines

-- the longest input
abbrev pub most_bytes : ℕ
most_bytes = 65536

-- rule 7.10: input that is too long gets 10 alone
unfoldable pub answers : List ℕ → List ℕ
answers input = if most_bytes <? length input then answer_line (refuses 10) else answers_of (lines_of input)

-- ---- Into lent room

-- Room that is always enough: 7 bytes for each of the input's, or the 3 of the answer to one that is too long.
unfoldable pub room_for : (bytes : ℕ) → ℕ
room_for bytes = if most_bytes <? bytes then 3 else 7 * bytes

-- the length of the answers, or 10, the room being below that
unfoldable pub answered_said : (input room : List ℕ) → Said ℕ
answered_said input room = if length room <? room_for (length input) then refused 10 else gives (length (answers input))

-- what stands behind the answers is not touched, and nothing is where the room is too short
unfoldable pub answered_room : (input room : List ℕ) → List ℕ
answered_room input room =
    if length room <? room_for (length input) then room else answers input ++ drop (length (answers input)) room
