-- The lines of a step file (rules 7.2 and 7.3). What is no line of the forms gives nothing.
use Rattle.std.specs.Prelude.{ℕ, Bool, List, drop, get_or, if◌then◌else◌, Option, Some, None, option_map}
use Rattle.words.specs.Lists.{text}
use Rattle.fields.specs.Places.{begins, is_exactly}
use Rattle.messages.specs.declared.Status.TheVariants.{Alive, Dead}
use Rattle.settings.specs.declared.Settings.{Settings}
use Rattle.settings.specs.Settings.{settings_of}
use Rattle.step_lines.specs.declared.Row.{Row}
use Rattle.step_lines.specs.declared.StepLine.{StepLine}
use Rattle.step_lines.specs.declared.StepLine.TheVariants.{Recorder, Observer, Standby}
use Rattle.recorder_rules.specs.declared.RecorderEvent.{RecorderEvent}
use Rattle.recorder_rules.specs.declared.RecorderEvent.TheVariants.{Tick, Drive, Grant}
use Rattle.observer_rules.specs.declared.ObserverEvent.{ObserverEvent}
use Rattle.observer_rules.specs.declared.ObserverEvent.TheVariants.{Request, Cut, Check}
use Rattle.standby_rules.specs.declared.StandbyEvent.{StandbyEvent}
use Rattle.standby_rules.specs.declared.StandbyEvent.TheVariants.{Begin, Poll, Ack}
use Rattle.step_lines.specs.Rows.{row}

-- the k-th number of a row
abbrev pub at : {n : ℕ} → Row n → ℕ → ℕ
at v k = get_or v.numbers k 0

-- what the line holds behind a row at its front
abbrev pub behind_row : {n : ℕ} → List ℕ → Row n → List ℕ
behind_row s v = drop v.behind s

-- behind the row stands the end of the line
unfoldable pub closed_by : {n : ℕ} → List ℕ → List ℕ → Row n → Bool
closed_by end s v = is_exactly end (behind_row s v)

-- the numbers of a row that the line feed ends
unfoldable pub last_numbers : {n : ℕ} → List ℕ → Option (Row n) → Option (List ℕ)
last_numbers s None = None
last_numbers s (Some v) = if closed_by (text "\n") s v then Some v.numbers else None

-- `SETTINGS` with the seven numbers
unfoldable pub settings_numbers : List ℕ → Option (Row 7) → Option Settings
settings_numbers s None = None
settings_numbers s (Some v) = if closed_by (text "\n") s v then Some (settings_of v.numbers) else None

unfoldable pub settings_line : List ℕ → Option Settings
settings_line s = if begins (text "SETTINGS") s then settings_numbers (drop 8 s) (row (drop 8 s) 7) else None

-- `R r tick`, `R r drive`, `R r grant x j`, from behind the R. Here v is a row of numbers, and each event is read from
-- behind the reading r; what stands behind a part is defined before it.
unfoldable pub grant_numbers : List ℕ → Option (Row 2) → Option RecorderEvent
grant_numbers s None = None
grant_numbers s (Some v) = if closed_by (text "\n") s v then Some (Grant (at v 0) (at v 1)) else None

unfoldable pub recorder_event : List ℕ → Option RecorderEvent
recorder_event s =
    if is_exactly (text "\ttick\n") s then Some Tick
    else (if is_exactly (text "\tdrive\n") s then Some Drive
    else (if begins (text "\tgrant") s then grant_numbers (drop 6 s) (row (drop 6 s) 2)
    else None))

unfoldable pub recorder_numbers : List ℕ → Option (Row 1) → Option StepLine
recorder_numbers s None = None
recorder_numbers s (Some v) = option_map (Recorder (at v 0)) (recorder_event (behind_row s v))

-- `O x r request c`, `O x r request c cut k`, `O x r check ts`, from behind the O
unfoldable pub cut_numbers : (c : ℕ) → List ℕ → Option (Row 1) → Option ObserverEvent
cut_numbers c s None = None
cut_numbers c s (Some v) = if closed_by (text "\n") s v then Some (Cut c (at v 0)) else None

unfoldable pub request_end : (c : ℕ) → List ℕ → Option ObserverEvent
request_end c s =
    if is_exactly (text "\n") s then Some (Request c)
    else (if begins (text "\tcut") s then cut_numbers c (drop 4 s) (row (drop 4 s) 1)
    else None)

unfoldable pub request_numbers : List ℕ → Option (Row 1) → Option ObserverEvent
request_numbers s None = None
request_numbers s (Some v) = request_end (at v 0) (behind_row s v)

unfoldable pub check_numbers : List ℕ → Option (Row 1) → Option ObserverEvent
check_numbers s None = None
check_numbers s (Some v) = if closed_by (text "\n") s v then Some (Check (at v 0)) else None

unfoldable pub observer_event : List ℕ → Option ObserverEvent
observer_event s =
    if begins (text "\trequest") s then request_numbers (drop 8 s) (row (drop 8 s) 1)
    else (if begins (text "\tcheck") s then check_numbers (drop 6 s) (row (drop 6 s) 1)
    else None)

unfoldable pub observer_numbers : List ℕ → Option (Row 2) → Option StepLine
observer_numbers s None = None
observer_numbers s (Some v) = option_map (Observer (at v 0) (at v 1)) (observer_event (behind_row s v))

-- `Q r begin`, `Q r poll`, `Q r ack x ts cnt Alive` (or `Dead`), from behind the Q
unfoldable pub ack_numbers : List ℕ → Option (Row 3) → Option StandbyEvent
ack_numbers s None = None
ack_numbers s (Some v) =
    if closed_by (text "\tAlive\n") s v then Some (Ack (at v 0) (at v 1) (at v 2) Alive)
    else (if closed_by (text "\tDead\n") s v then Some (Ack (at v 0) (at v 1) (at v 2) Dead)
    else None)

unfoldable pub standby_event : List ℕ → Option StandbyEvent
standby_event s =
    if is_exactly (text "\tbegin\n") s then Some Begin
    else (if is_exactly (text "\tpoll\n") s then Some Poll
    else (if begins (text "\tack") s then ack_numbers (drop 4 s) (row (drop 4 s) 3)
    else None))

unfoldable pub standby_numbers : List ℕ → Option (Row 1) → Option StepLine
standby_numbers s None = None
standby_numbers s (Some v) = option_map (Standby (at v 0)) (standby_event (behind_row s v))

-- The line. A line feed ends it, so one without gives nothing.
unfoldable pub step_line : List ℕ → Option StepLine
step_line s =
    if begins (text "R") s then recorder_numbers (drop 1 s) (row (drop 1 s) 1)
    else (if begins (text "O") s then observer_numbers (drop 1 s) (row (drop 1 s) 2)
    else (if begins (text "Q") s then standby_numbers (drop 1 s) (row (drop 1 s) 1)
    else None))
