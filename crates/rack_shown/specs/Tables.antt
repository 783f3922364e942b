-- How a single run is written down: one line an event, in the order of time, and beside it what the event is answered.
-- `at_recorder g r tick gets ..`: at common time g, where the party reads r.
use Rattle.std.specs.Prelude.{ℕ, ◌+◌, true, List, [], ◌∷◌, map, reverse, ◌≡◌, get_or}
use Rattle.std.proofs.Common.{arith}
use Rattle.words.specs.Said.{Said}
use Rattle.settings.specs.declared.Settings.{Settings}
use Rattle.settings.specs.Settings.{settings, refusal_of}
use Rattle.messages.specs.Answers.{Spoken}
use Rattle.rack.specs.Clocks.{Clock, Clocks}
use Rattle.rack.specs.Runs.{Rules, Event, answer_to, is_run}

-- ---- Settings and clocks

-- small numbers, for runs at the margin: W = 2, slacks 0, 0, 122
abbrev pub narrow : Settings
narrow = settings 2 1 2 1 6 11 2

-- a clock that is d ticks ahead of common time, before rounding
abbrev pub ahead : (d : ℕ) → Clock
ahead d = record { behind = 0; at = λ g. g + d; steady = λ g span. omega arith }

-- by how much the recorder, the standby and the observers are ahead; observers not listed are not
abbrev pub clocks_ahead : (recorder standby : ℕ) → (observers : List ℕ) → Clocks
clocks_ahead recorder standby observers =
    record { recorder = ahead recorder; standby = ahead standby; observer = λ x. ahead (get_or observers x 0) }

-- every clock shows common time, before rounding
abbrev pub together : Clocks
together = clocks_ahead 0 0 []

-- ---- Tables

pub record Line : Type 0 where
  pub event : Event
  pub answer : Said Spoken

infix 70 ◌gets◌
abbrev pub ◌gets◌ : Event → Said Spoken → Line
e gets a = record { event = e; answer = a }

abbrev pub events_of : List Line → List Event
events_of lines = map (λ line. line.event) lines

-- the run, its newest event first
abbrev pub run_of : List Line → List Event
run_of lines = reverse (events_of lines)

-- what events, the oldest of them first, are answered behind their past
unfoldable pub answers_to : Rules → Settings → (past : List Event) → List Event → List (Said Spoken)
answers_to rules s past [] = []
answers_to rules s past (e ∷ rest) = answer_to rules s past e ∷ answers_to rules s (e ∷ past) rest

-- The settings are accepted, the events are a run, and each is answered as written.
pub record AsWritten (rules : Rules) (s : Settings) (clocks : Clocks) (lines : List Line) : Type 0 where
  pub accepted : refusal_of s ≡ 0
  pub is_run_lem : is_run rules s clocks (run_of lines) ≡ true
  pub answers : answers_to rules s [] (events_of lines) ≡ map (λ line. line.answer) lines
