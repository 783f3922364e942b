-- Each test of a run, and each premise of the claims, is needed: a list of events that passes all tests but one, or a run that
-- meets all premises but one, and in which what is claimed fails. Each is shown by computation.
use Rattle.std.specs.Prelude.{ℕ, ◌+◌, Bool, true, false, ◌&&◌, List, [], ◌∷◌, map, ◌++◌, ◌≡◌, take, drop}
use Rattle.words.specs.Lists.{every}
use Rattle.settings.specs.declared.Settings.{Settings}
use Rattle.settings.specs.Settings.{Δ, refusal_of}
use Rattle.quorums.specs.Quorums.{closes}
use Rattle.messages.specs.declared.Status.TheVariants.{Alive, Dead}
use Rattle.messages.specs.declared.Message.TheVariants.{LeaseRequest, LeaseGrant, Check, CheckAck}
use Rattle.messages.specs.Answers.{sends, says, says_of, refuses}
use Rattle.recorder_rules.specs.declared.RecorderEvent.TheVariants.{Tick as tick, Grant as grant, Drive as drive}
use Rattle.observer_rules.specs.declared.ObserverEvent.TheVariants.{Request as request, Check as check}
use Rattle.standby_rules.specs.declared.StandbyEvent.TheVariants.{Begin as begin, Ack as ack}
use Rattle.rack.specs.Clocks.{Clocks}
use Rattle.rack.specs.Runs.{Rules, ours, Event, in_time, rising, on_clock, delivered, state_after, is_run}
use Rattle.rack.specs.Runs.Event.{at_recorder, at_observer, at_standby}
use Rattle.rack.specs.Claims.{RegisteredIn, sent_by, prompt, no_begin, ackers}
use Rattle.rack_shown.specs.Tables.{narrow, clocks_ahead, together, Line, ◌gets◌, events_of, run_of, answers_to, AsWritten}
use Rattle.rack_shown.specs.Shown.{bound, renewal_fails}

-- ---- The tests of a run

-- what an event has to pass behind its past: time does not fall, nor do its party's readings; the reading is one of the clock;
-- and what arrives was sent
abbrev pub tests : Rules → Settings → Clocks → (past : List Event) → Event → List Bool
tests rules s clocks past e =
    in_time past e
    ∷ rising past e
    ∷ on_clock s clocks e
    ∷ delivered (state_after rules s past).history e
    ∷ []

-- the numbers of the tests
abbrev pub time_order : ℕ
time_order = 0

abbrev pub reading_order : ℕ
reading_order = 1

abbrev pub clock_reading : ℕ
clock_reading = 2

abbrev pub sending : ℕ
sending = 3

abbrev pub no_test : ℕ
no_test = 4

-- every event passes all tests but the one of that number
unfoldable pub passes_but : (left_out : ℕ) → Rules → Settings → Clocks → List Event → Bool
passes_but left_out rules s clocks [] = true
passes_but left_out rules s clocks (e ∷ past) =
    passes_but left_out rules s clocks past
    && every (λ test. test) (take left_out (tests rules s clocks past e) ++ drop (left_out + 1) (tests rules s clocks past e))

-- accepted settings and events that are no run for that one test alone, each answered as written
pub record AllBut (left_out : ℕ) (s : Settings) (clocks : Clocks) (lines : List Line) : Type 0 where
  pub accepted : refusal_of s ≡ 0
  pub passes : passes_but left_out ours s clocks (run_of lines) ≡ true
  pub is_no_run : is_run ours s clocks (run_of lines) ≡ false
  pub answers : answers_to ours s [] (events_of lines) ≡ map (λ line. line.answer) lines

-- ---- Without them dead does not mean dead

-- The standby reads 8 where its clock shows 10, two ticks below, though the grain is 2: so dead comes a tick too early.
unfoldable pub reads_too_low : List Line
reads_too_low =
    at_recorder 0 0 tick gets sends (LeaseRequest 1)
    ∷ at_observer 0 0 0 (request 1) gets sends (LeaseGrant 1)
    ∷ at_recorder 4 4 tick gets sends (LeaseRequest 2)
    ∷ at_standby 6 6 begin gets sends (Check 6)
    ∷ at_observer 1 6 6 (check 6) gets sends (CheckAck 6 0 Dead)
    ∷ at_observer 1 6 6 (request 2) gets sends (LeaseGrant 2)
    ∷ at_recorder 6 5 (grant 1 2) gets says "running"
    ∷ at_standby 6 6 (ack 1 6 0 Dead) gets says "waiting"
    ∷ at_observer 0 10 11 (check 6) gets sends (CheckAck 6 1 Dead)
    ∷ at_standby 10 8 (ack 0 6 1 Dead) gets says_of "dead" 1
    ∷ at_recorder 10 9 drive gets says "running"
    ∷ []

-- Behind dead, at time 18, a drive of time 14.
abbrev pub drives_earlier : List Line
drives_earlier = take 18 renewal_fails ++ (at_recorder 14 13 drive gets says "running" ∷ [])

-- Nobody has sent request 9, which observer 0 stores; it says Dead with it while observer 1 has granted what was sent.
unfoldable pub request_invented : List Line
request_invented =
    at_observer 0 0 0 (request 9) gets sends (LeaseGrant 9)
    ∷ at_recorder 8 8 tick gets sends (LeaseRequest 1)
    ∷ at_observer 1 8 8 (request 1) gets sends (LeaseGrant 1)
    ∷ at_recorder 8 8 (grant 1 1) gets says "running"
    ∷ at_standby 11 11 begin gets sends (Check 11)
    ∷ at_observer 0 11 11 (check 11) gets sends (CheckAck 11 9 Dead)
    ∷ at_observer 1 11 11 (check 11) gets sends (CheckAck 11 1 Alive)
    ∷ at_standby 11 11 (ack 0 11 9 Dead) gets says "waiting"
    ∷ at_standby 11 11 (ack 1 11 1 Alive) gets says_of "dead" 9
    ∷ at_recorder 11 11 drive gets says "running"
    ∷ []

-- Nobody has asked observer 1 at time 5: what it knows then is heard in a round begun at 12.
unfoldable pub check_invented : List Line
check_invented =
    at_recorder 0 0 tick gets sends (LeaseRequest 1)
    ∷ at_observer 0 0 0 (request 1) gets sends (LeaseGrant 1)
    ∷ at_recorder 0 0 (grant 0 1) gets says "running"
    ∷ at_observer 1 5 5 (check 12) gets sends (CheckAck 12 0 Dead)
    ∷ at_recorder 5 5 tick gets sends (LeaseRequest 2)
    ∷ at_observer 1 5 5 (request 2) gets sends (LeaseGrant 2)
    ∷ at_recorder 5 5 (grant 1 2) gets says "running"
    ∷ at_recorder 10 10 tick gets sends (LeaseRequest 3)
    ∷ at_observer 1 10 10 (request 3) gets sends (LeaseGrant 3)
    ∷ at_recorder 10 10 (grant 1 3) gets says "running"
    ∷ at_standby 12 12 begin gets sends (Check 12)
    ∷ at_observer 0 12 12 (check 12) gets sends (CheckAck 12 1 Dead)
    ∷ at_standby 12 12 (ack 0 12 1 Dead) gets says "waiting"
    ∷ at_standby 12 12 (ack 1 12 0 Dead) gets says_of "dead" 1
    ∷ at_recorder 12 12 drive gets says "running"
    ∷ []

-- Observer 1 has not sent that it knows of request 7.
unfoldable pub ack_invented : List Line
ack_invented =
    at_recorder 0 0 tick gets sends (LeaseRequest 1)
    ∷ at_observer 0 0 0 (request 1) gets sends (LeaseGrant 1)
    ∷ at_recorder 0 0 (grant 0 1) gets says "running"
    ∷ at_standby 2 2 begin gets sends (Check 2)
    ∷ at_observer 0 2 2 (check 2) gets sends (CheckAck 2 1 Alive)
    ∷ at_standby 2 2 (ack 0 2 1 Alive) gets says "waiting"
    ∷ at_standby 2 2 (ack 1 2 7 Dead) gets says_of "dead" 7
    ∷ at_recorder 2 2 drive gets says "running"
    ∷ []

-- Observer 1 has granted nothing, and the recorder goes on by its grants.
unfoldable pub grant_invented : List Line
grant_invented =
    at_recorder 0 0 tick gets sends (LeaseRequest 1)
    ∷ at_observer 0 0 0 (request 1) gets sends (LeaseGrant 1)
    ∷ at_recorder 0 0 (grant 0 1) gets says "running"
    ∷ at_recorder 5 5 tick gets sends (LeaseRequest 2)
    ∷ at_recorder 5 5 (grant 1 2) gets says "running"
    ∷ at_recorder 10 10 tick gets sends (LeaseRequest 3)
    ∷ at_recorder 10 10 (grant 1 3) gets says "running"
    ∷ at_standby 12 12 begin gets sends (Check 12)
    ∷ at_observer 0 12 12 (check 12) gets sends (CheckAck 12 1 Dead)
    ∷ at_observer 1 12 12 (check 12) gets sends (CheckAck 12 0 Dead)
    ∷ at_standby 12 12 (ack 0 12 1 Dead) gets says "waiting"
    ∷ at_standby 12 12 (ack 1 12 0 Dead) gets says_of "dead" 1
    ∷ at_recorder 12 12 drive gets says "running"
    ∷ []

-- A recorder that reads less than before is refused, and not told that it has stopped.
abbrev pub refused_after_dead : List Line
refused_after_dead =
    take 18 renewal_fails ++ (at_recorder 18 18 drive gets says "stopped" ∷ at_recorder 18 17 drive gets refuses 4 ∷ [])

-- ---- Without them one exchange does not end a round

-- The second ack comes in time and is refused: the standby reads less than at the first.
unfoldable pub asked_once : List Line
asked_once =
    at_recorder 0 0 tick gets sends (LeaseRequest 1)
    ∷ at_observer 0 0 0 (request 1) gets sends (LeaseGrant 1)
    ∷ at_standby 4 4 begin gets sends (Check 4)
    ∷ []

unfoldable pub replies_refused : List Line
replies_refused =
    at_observer 0 4 4 (check 4) gets sends (CheckAck 4 1 Alive)
    ∷ at_observer 1 4 4 (check 4) gets sends (CheckAck 4 0 Dead)
    ∷ at_standby 5 5 (ack 0 4 1 Alive) gets says "waiting"
    ∷ at_standby 5 4 (ack 1 4 0 Dead) gets refuses 4
    ∷ []

-- ---- Without them a dead recorder is not found

-- Request 2 is sent at time 4, behind f = 0, and arrives within D = 1.
unfoldable pub sent_later : (g : ℕ) → List Line
sent_later g =
    at_recorder 0 0 tick gets sends (LeaseRequest 1)
    ∷ at_observer 0 0 0 (request 1) gets sends (LeaseGrant 1)
    ∷ at_recorder 0 0 (grant 0 1) gets says "running"
    ∷ at_recorder 4 4 tick gets sends (LeaseRequest 2)
    ∷ at_observer 0 5 5 (request 2) gets sends (LeaseGrant 2)
    ∷ at_standby g g begin gets sends (Check g)
    ∷ at_observer 0 g g (check g) gets sends (CheckAck g 2 Alive)
    ∷ at_observer 1 g g (check g) gets sends (CheckAck g 0 Dead)
    ∷ at_standby g g (ack 0 g 2 Alive) gets says "waiting"
    ∷ at_standby g g (ack 1 g 0 Dead) gets says_of "alive" 2
    ∷ []

-- Request 2, sent at f = 2, arrives at time 10, more than D = 1 after its sending, and is granted.
unfoldable pub arrives_late : (g : ℕ) → List Line
arrives_late g =
    at_recorder 0 0 tick gets sends (LeaseRequest 1)
    ∷ at_observer 0 1 1 (request 1) gets sends (LeaseGrant 1)
    ∷ at_recorder 1 1 (grant 0 1) gets says "running"
    ∷ at_recorder 2 2 tick gets sends (LeaseRequest 2)
    ∷ at_observer 0 10 10 (request 2) gets sends (LeaseGrant 2)
    ∷ at_standby g g begin gets sends (Check g)
    ∷ at_observer 0 g g (check g) gets sends (CheckAck g 2 Alive)
    ∷ at_observer 1 g g (check g) gets sends (CheckAck g 0 Dead)
    ∷ at_standby g g (ack 0 g 2 Alive) gets says "waiting"
    ∷ at_standby g g (ack 1 g 0 Dead) gets says_of "alive" 2
    ∷ []

-- ---- Together

-- in all of these observer 0 is a tick ahead
abbrev pub near : Clocks
near = clocks_ahead 0 0 (1 ∷ [])

pub record TestsAreNeeded : Type 0 where
  -- a run is what passes all of them
  pub all_of_them : (rules : Rules) (s : Settings) (clocks : Clocks) (events : List Event)
      → passes_but no_test rules s clocks events ≡ is_run rules s clocks events
  -- dead is told, and the recorder drives
  pub reads_too_low_lem : AllBut clock_reading narrow near reads_too_low
  pub drives_earlier_lem : AllBut time_order narrow near drives_earlier
  pub request_invented_lem : AllBut sending narrow together request_invented
  pub check_invented_lem : AllBut sending narrow together check_invented
  pub ack_invented_lem : AllBut sending narrow together ack_invented
  pub grant_invented_lem : AllBut sending narrow together grant_invented
  -- dead is told, and the recorder is not told that it has stopped
  pub refused_after_dead_lem : AllBut reading_order narrow near refused_after_dead
  -- a query quorum's replies come in time, no other round is begun, and the round does not end
  pub replies_refused_lem : AllBut reading_order narrow together (asked_once ++ replies_refused)
  pub one_round : no_begin (run_of replies_refused) ≡ true
  pub both_replied : closes narrow (ackers 4 (4 + Δ narrow) (run_of replies_refused)) ≡ true

-- A query begun at the bound says alive, where one premise of detection is lacking.
pub record DetectionNeedsThem : Type 0 where
  -- no request is sent after f
  pub later : AsWritten ours narrow together (sent_later (bound narrow 0 1))
  pub later_registered : RegisteredIn ours narrow (run_of (sent_later (bound narrow 0 1)))
  pub later_sent : sent_by 0 (state_after ours narrow (run_of (sent_later (bound narrow 0 1)))).history ≡ false
  pub later_prompt :
      every (prompt 1 (state_after ours narrow (run_of (sent_later (bound narrow 0 1)))).history)
      (run_of (sent_later (bound narrow 0 1))) ≡ true
  -- none arrives after D, one that is granted included
  pub late : AsWritten ours narrow together (arrives_late (bound narrow 2 1))
  pub late_registered : RegisteredIn ours narrow (run_of (arrives_late (bound narrow 2 1)))
  pub late_sent : sent_by 2 (state_after ours narrow (run_of (arrives_late (bound narrow 2 1)))).history ≡ true
  pub late_not_prompt :
      every (prompt 1 (state_after ours narrow (run_of (arrives_late (bound narrow 2 1)))).history)
      (run_of (arrives_late (bound narrow 2 1))) ≡ false
