-- What the answers to a file keep, whatever the file.
use Rattle.std.specs.Prelude.{ℕ, suc, ◌≤◌, Bool, false, List, [], ◌∷◌, ◌≡◌, length, if◌then◌else◌, Option, Some, None}
use Rattle.words.specs.Tests.{◌<?◌, ◌=?◌}
use Rattle.settings.specs.Settings.{refusal_of}
use Rattle.settings.specs.declared.Settings.{Settings}
use Rattle.step_lines.specs.Reading.{settings_line}
use Rattle.session.specs.declared.Session.{Session}
use Rattle.stepfile_rules.specs.Lines.{lines_of, together}
use Rattle.stepfile_rules.specs.Files.{answers_to, answers, most_bytes, room_for}

-- The lines put together are the file: splitting loses nothing.
abbrev pub LinesMakeTheFile : Type 0
LinesMakeTheFile = (file : List ℕ) → together (lines_of file) ≡ file

-- The room that is asked for is enough.
abbrev pub RoomIsEnough : Type 0
RoomIsEnough = (input : List ℕ) → length (answers input) ≤ room_for (length input)

-- how many lines are answered: all of them, if the first starts a run; else the first alone
unfoldable pub starts_run : Option Settings → Bool
starts_run (Some s) = refusal_of s =? 0
starts_run None = false

unfoldable pub answered_of : List (List ℕ) → ℕ
answered_of [] = 0
answered_of (line ∷ lines) = if starts_run (settings_line line) then suc (length lines) else 1

unfoldable pub answered_lines : List ℕ → ℕ
answered_lines input = if most_bytes <? length input then 1 else answered_of (lines_of input)

-- Each line gets exactly one line, until the run ends.
pub record OneLineEach : Type 0 where
  pub in_a_run : (session : Session) (lines : List (List ℕ)) → length (lines_of (answers_to session lines)) ≡ length lines
  pub in_a_file : (input : List ℕ) → length (lines_of (answers input)) ≡ answered_lines input
