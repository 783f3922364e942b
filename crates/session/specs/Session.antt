-- The records of a rack, and each line's step on the record of its party. The steps are the parties' own definitions.
use Rattle.std.specs.Prelude.{ℕ, List, get_or, set, replicate, Option, Some, None}
use Rattle.settings.specs.declared.Settings.{Settings}
use Rattle.settings.specs.Settings.{most_observers}
use Rattle.messages.specs.Answers.{refuses}
use Rattle.messages.specs.Outcomes.{Outcome, ◌leaving◌}
use Rattle.recorder_rules.specs.declared.Recorder.{Recorder}
use Rattle.recorder_rules.specs.Recorder.{step_of as recorderOf, fresh as freshRecorder}
use Rattle.observer_rules.specs.declared.Observer.{Observer}
use Rattle.observer_rules.specs.Observer.{step_of as observerOf, fresh as freshObserver}
use Rattle.standby_rules.specs.declared.Standby.{Standby}
use Rattle.standby_rules.specs.Standby.{step_of as standbyOf, fresh as freshStandby}
use Rattle.step_lines.specs.declared.StepLine.{StepLine}
use Rattle.step_lines.specs.declared.StepLine.TheVariants as line
use Rattle.session.specs.declared.Session.{Session}

-- every record is fresh at first
abbrev pub started : Settings → Session
started s =
    record {
      settings = s;
      recorder = freshRecorder;
      observers = replicate most_observers freshObserver;
      standby = freshStandby;
    }

-- ---- Performing a line

-- The record of observer x. A number that has none is refused whatever the record is, so a fresh one will do.
abbrev pub observer_at : List Observer → (x : ℕ) → Observer
observer_at observers x = get_or observers x freshObserver

-- What a party's step answers and leaves, among the records.
unfoldable pub with_recorder : Session → Outcome Recorder → Outcome Session
with_recorder session o =
    o.answer leaving record {
      settings = session.settings;
      recorder = o.rec;
      observers = session.observers;
      standby = session.standby;
    }

unfoldable pub with_observer : Session → (x : ℕ) → Outcome Observer → Outcome Session
with_observer session x o =
    o.answer leaving record {
      settings = session.settings;
      recorder = session.recorder;
      observers = set session.observers x o.rec;
      standby = session.standby;
    }

unfoldable pub with_standby : Session → Outcome Standby → Outcome Session
with_standby session o =
    o.answer leaving record {
      settings = session.settings;
      recorder = session.recorder;
      observers = session.observers;
      standby = o.rec;
    }

-- A line's step, which is its party's own. A line of no form gets 9.
unfoldable pub perform_of : Session → Option StepLine → Outcome Session
perform_of session (Some (line.Recorder r event)) =
    with_recorder session (recorderOf session.settings session.recorder r event)
perform_of session (Some (line.Observer x r event)) =
    with_observer session x (observerOf session.settings (observer_at session.observers x) x r event)
perform_of session (Some (line.Standby r event)) =
    with_standby session (standbyOf session.settings session.standby r event)
perform_of session None = refuses 9 leaving session
