-- Runs: what can happen on a rack. A run is a list of events, the newest first; its state is the parties' records and the
-- history of what was sent. Messages are delivered from the history and stay in it, so they may be lost, delayed, repeated
-- and reordered, and none is invented.
use Rattle.std.specs.Prelude.{ℕ, ◌+◌, Bool, true, false, ◌&&◌, ◌||◌, not, List, [], ◌∷◌, if◌then◌else◌}
use Rattle.words.specs.Tests.{◌≤?◌, ◌=?◌}
use Rattle.words.specs.Lists.{every, some}
use Rattle.words.specs.Said.{Said}
use Rattle.words.specs.Said.Said.{refusal, gives}
use Rattle.settings.specs.declared.Settings.{Settings}
use Rattle.settings.specs.Settings.{window}
use Rattle.messages.specs.declared.Status.{Status}
use Rattle.messages.specs.declared.Status.TheVariants.{Alive, Dead}
use Rattle.messages.specs.declared.Message.{Message}
use Rattle.messages.specs.declared.Message.TheVariants.{LeaseRequest, LeaseGrant, Check, CheckAck}
use Rattle.messages.specs.Messages.{top_reading}
use Rattle.messages.specs.Answers.{Spoken, giving, nothing, message, refuses}
use Rattle.messages.specs.Outcomes.{Outcome}
use Rattle.recorder_rules.specs.declared.Recorder.{Recorder}
use Rattle.recorder_rules.specs.Recorder.{step_of as recorderStep, fresh as freshRecorder}
use Rattle.recorder_rules.specs.declared.RecorderEvent.{RecorderEvent}
use Rattle.recorder_rules.specs.declared.RecorderEvent.TheVariants.{Tick as tick, Grant as grant, Drive as drive}
use Rattle.observer_rules.specs.declared.Observer.{Observer}
use Rattle.observer_rules.specs.Observer.{step_of as observerStep, restart_of, fresh as freshObserver}
use Rattle.observer_rules.specs.declared.ObserverEvent.{ObserverEvent}
use Rattle.observer_rules.specs.declared.ObserverEvent.TheVariants.{Request as request, Cut as cut, Check as check}
use Rattle.standby_rules.specs.declared.Standby.{Standby}
use Rattle.standby_rules.specs.Standby.{step_within, fresh as freshStandby}
use Rattle.standby_rules.specs.declared.StandbyEvent.{StandbyEvent}
use Rattle.standby_rules.specs.declared.StandbyEvent.TheVariants.{Begin as begin, Ack as ack, Poll as poll}
use Rattle.rack.specs.Clocks.{Clocks, reads}

-- ---- Rules: what each party does at a step

pub record Rules : Type 0 where
  pub recorder : Settings → Recorder → (r : ℕ) → RecorderEvent → Outcome Recorder
  pub observer : Settings → Observer → (x r : ℕ) → ObserverEvent → Outcome Observer
  pub standby : Settings → Standby → (r : ℕ) → StandbyEvent → Outcome Standby

-- ours, but for the window
abbrev pub ours_within : (Settings → ℕ) → Rules
ours_within w =
    record {
      recorder = recorderStep;
      observer = observerStep;
      standby = λ s. step_within (w s) s;
    }

-- the definitions that the contracts cite
abbrev pub ours : Rules
ours = ours_within window

-- ---- Events, each at its common time g; where a party makes a step, with its reading r

pub data Event : Type 0 where
  at_recorder : (g r : ℕ) → RecorderEvent → Event
  at_observer : (x g r : ℕ) → ObserverEvent → Event
  at_standby : (g r : ℕ) → StandbyEvent → Event
  -- observer x goes down between two steps, and comes up with what it stored
  crash : (x g : ℕ) → Event
  -- the standby loses its record and goes on with a fresh one; its clock is not disturbed
  restart : (g : ℕ) → Event

unfoldable pub time : Event → ℕ
time (at_recorder g r e) = g
time (at_observer x g r e) = g
time (at_standby g r e) = g
time (crash x g) = g
time (restart g) = g

-- ---- Parties and what they have sent

pub data Party : Type 0 where
  recorder : Party
  standby : Party
  observer : ℕ → Party

-- A request or a check goes to every observer, a grant to the recorder, an ack to the standby.
pub record Sent : Type 0 where
  pub by : Party
  pub what : Message
  pub time : ℕ

-- numbers that tell parties and messages apart
unfoldable pub party_key : Party → ℕ
party_key recorder = 0
party_key standby = 1
party_key (observer x) = x + 2

unfoldable pub status_key : Status → ℕ
status_key Alive = 0
status_key Dead = 1

unfoldable pub message_key : Message → List ℕ
message_key (LeaseRequest c) = 0 ∷ c ∷ []
message_key (LeaseGrant c) = 1 ∷ c ∷ []
message_key (Check ts) = 2 ∷ ts ∷ []
message_key (CheckAck ts c status) = 3 ∷ ts ∷ c ∷ status_key status ∷ []

unfoldable pub same_numbers : List ℕ → List ℕ → Bool
same_numbers [] [] = true
same_numbers [] (y ∷ ys) = false
same_numbers (x ∷ xs) [] = false
same_numbers (x ∷ xs) (y ∷ ys) = (x =? y) && same_numbers xs ys

-- the party has sent this message
unfoldable pub was_sent : List Sent → Party → Message → Bool
was_sent history by what =
    some (λ sent. (party_key sent.by =? party_key by) && same_numbers (message_key sent.what) (message_key what)) history

-- ---- States

pub record State : Type 0 where
  pub recorder : Recorder
  pub observers : ℕ → Observer
  pub standby : Standby
  pub history : List Sent

-- rule 9.2
abbrev pub start : State
start = record { recorder = freshRecorder; observers = λ x. freshObserver; standby = freshStandby; history = [] }

unfoldable pub put : (ℕ → Observer) → (x : ℕ) → Observer → ℕ → Observer
put observers x o y = if y =? x then o else observers y

-- A message enters the history only as what the answer of this very event sends.
unfoldable pub posted : Party → (g : ℕ) → Said Spoken → List Sent → List Sent
posted by g (refusal k values) history = history
posted by g (gives (giving (message m) words)) history = record { by = by; what = m; time = g } ∷ history
posted by g (gives (giving nothing words)) history = history

pub record After : Type 0 where
  pub state : State
  pub answer : Said Spoken

-- what an event does, and what its party is answered; nobody is answered at a crash or a restart
unfoldable pub perform : Rules → Settings → State → Event → After
perform rules s st (at_recorder g r e) =
    let out = rules.recorder s st.recorder r e in
    record {
      state = record {
        recorder = out.rec;
        observers = st.observers;
        standby = st.standby;
        history = posted recorder g out.answer st.history;
      };
      answer = out.answer;
    }
perform rules s st (at_observer x g r e) =
    let out = rules.observer s (st.observers x) x r e in
    record {
      state = record {
        recorder = st.recorder;
        observers = put st.observers x out.rec;
        standby = st.standby;
        history = posted (observer x) g out.answer st.history;
      };
      answer = out.answer;
    }
perform rules s st (at_standby g r e) =
    let out = rules.standby s st.standby r e in
    record {
      state = record {
        recorder = st.recorder;
        observers = st.observers;
        standby = out.rec;
        history = posted standby g out.answer st.history;
      };
      answer = out.answer;
    }
perform rules s st (crash x g) =
    record {
      state = record {
        recorder = st.recorder;
        observers = put st.observers x (restart_of (st.observers x));
        standby = st.standby;
        history = st.history;
      };
      answer = refuses 0;
    }
perform rules s st (restart g) =
    record {
      state = record {
        recorder = st.recorder;
        observers = st.observers;
        standby = freshStandby;
        history = st.history;
      };
      answer = refuses 0;
    }

-- ---- What makes a list of events a run

-- common time never falls; several events may share a tick
unfoldable pub in_time : List Event → Event → Bool
in_time [] e = true
in_time (last ∷ past) e = time last ≤? time e

-- who read what, at this event
pub record Reading : Type 0 where
  pub who : ℕ
  pub r : ℕ

unfoldable pub readings_at : Event → List Reading
readings_at (at_recorder g r e) = record { who = party_key recorder; r = r } ∷ []
readings_at (at_observer x g r e) = record { who = party_key (observer x); r = r } ∷ []
readings_at (at_standby g r e) = record { who = party_key standby; r = r } ∷ []
readings_at (crash x g) = []
readings_at (restart g) = []

-- a party's readings never fall, across crashes and restarts too
unfoldable pub rising : List Event → Event → Bool
rising past e =
    every (λ now. every (λ before. every (λ old. not (old.who =? now.who) || (old.r ≤? now.r)) (readings_at before)) past) (readings_at e)

-- the reading is one of the party's clock at that time, and in range
unfoldable pub on_clock : Settings → Clocks → Event → Bool
on_clock s clocks (at_recorder g r e) = reads s clocks.recorder g r && (r ≤? top_reading)
on_clock s clocks (at_observer x g r e) = reads s (clocks.observer x) g r && (r ≤? top_reading)
on_clock s clocks (at_standby g r e) = reads s clocks.standby g r && (r ≤? top_reading)
on_clock s clocks (crash x g) = true
on_clock s clocks (restart g) = true

-- a message that arrives was sent, to this party, and carries its sender
unfoldable pub delivered : List Sent → Event → Bool
delivered history (at_recorder g r tick) = true
delivered history (at_recorder g r (grant x j)) = was_sent history (observer x) (LeaseGrant j)
delivered history (at_recorder g r drive) = true
delivered history (at_observer x g r (request c)) = was_sent history recorder (LeaseRequest c)
delivered history (at_observer x g r (cut c k)) = was_sent history recorder (LeaseRequest c)
delivered history (at_observer x g r (check ts)) = was_sent history standby (Check ts)
delivered history (at_standby g r begin) = true
delivered history (at_standby g r (ack x ts cnt status)) = was_sent history (observer x) (CheckAck ts cnt status)
delivered history (at_standby g r poll) = true
delivered history (crash x g) = true
delivered history (restart g) = true

-- the state after a list of events, the newest of which stands first
unfoldable pub state_after : Rules → Settings → List Event → State
state_after rules s [] = start
state_after rules s (e ∷ past) = (perform rules s (state_after rules s past) e).state

-- what an event is answered behind its past
unfoldable pub answer_to : Rules → Settings → List Event → Event → Said Spoken
answer_to rules s past e = (perform rules s (state_after rules s past) e).answer

unfoldable pub is_run : Rules → Settings → Clocks → List Event → Bool
is_run rules s clocks [] = true
is_run rules s clocks (e ∷ past) =
    is_run rules s clocks past
    && in_time past e
    && rising past e
    && on_clock s clocks e
    && delivered (state_after rules s past).history e
