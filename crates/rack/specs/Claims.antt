-- Demand 3 of the customer, phrase by phrase. A list of events has the newest first; `answer_to rules s past e` is what the
-- event e is answered behind its past.
use Rattle.std.specs.Prelude.{ℕ, ◌+◌, ◌*◌, ◌≤◌, Bool, true, false, ◌&&◌, ◌||◌, not, List, [], ◌∷◌, ◌++◌, map, ◌⊎◌, ◌≡◌}
use Rattle.words.specs.Tests.{◌≤?◌, ◌=?◌}
use Rattle.words.specs.Lists.{every, some}
use Rattle.words.specs.Said.{Said}
use Rattle.settings.specs.declared.Settings.{Settings}
use Rattle.settings.specs.Settings.{Δ, O, rounding, window, refusal_of}
use Rattle.quorums.specs.Quorums.{closes}
use Rattle.messages.specs.declared.Message.{Message}
use Rattle.messages.specs.declared.Message.TheVariants.{LeaseRequest, LeaseGrant, Check, CheckAck}
use Rattle.messages.specs.Messages.{has_form}
use Rattle.messages.specs.Answers.{Spoken, is_refusal, says, says_of}
use Rattle.recorder_rules.specs.Recorder.{registered}
use Rattle.recorder_rules.specs.declared.RecorderEvent.{RecorderEvent}
use Rattle.recorder_rules.specs.declared.RecorderEvent.TheVariants.{Drive as drive}
use Rattle.observer_rules.specs.declared.ObserverEvent.TheVariants.{Request as request, Cut as cut, Check as check}
use Rattle.standby_rules.specs.declared.StandbyEvent.TheVariants.{Begin as begin, Ack as ack, Poll as poll}
use Rattle.rack.specs.Clocks.{Clocks}
use Rattle.rack.specs.Runs.{Rules, ours_within, ours, Event, time, Sent, message_key, same_numbers, state_after, answer_to, is_run}
use Rattle.rack.specs.Runs.Event.{at_recorder, at_observer, at_standby, crash, restart}

-- ---- 1. Safety

-- In a run no event of the recorder is refused.
abbrev pub NeverRefused : Rules → Settings → Type 0
NeverRefused rules s =
    (clocks : Clocks) (past : List Event) (g r : ℕ) (e : RecorderEvent)
    → is_run rules s clocks (at_recorder g r e ∷ past) ≡ true
    → is_refusal (answer_to rules s past (at_recorder g r e)) ≡ false

-- of our steps, under all accepted settings, with every window up to W
abbrev pub RecorderIsNeverRefused : Type 0
RecorderIsNeverRefused =
    (s : Settings) → refusal_of s ≡ 0 → (w : Settings → ℕ) → w s ≤ window s → NeverRefused (ours_within w) s

-- Every message that a run sends has its form (rule 6.3), so that its line can be written; with every window up to W.
abbrev pub SentMessagesHaveForm : Type 0
SentMessagesHaveForm =
    (s : Settings) → refusal_of s ≡ 0 → (w : Settings → ℕ) → w s ≤ window s
    → (clocks : Clocks) (run : List Event) → is_run (ours_within w) s clocks run ≡ true
    → every (λ sent. has_form sent.what) (state_after (ours_within w) s run).history ≡ true

-- Rule 9.6: once the standby is told dead, every later event of the recorder is answered stopped; hence no drive is answered
-- running, which alone allows driving.
pub record Safe (rules : Rules) (s : Settings) : Type 0 where
  pub stops : (clocks : Clocks) (earlier between : List Event) (told : Event) (m g r : ℕ) (e : RecorderEvent)
      → is_run rules s clocks (at_recorder g r e ∷ (between ++ (told ∷ earlier))) ≡ true
      → answer_to rules s earlier told ≡ says_of "dead" m
      → answer_to rules s (between ++ (told ∷ earlier)) (at_recorder g r e) ≡ says "stopped"
  pub never_drives : (clocks : Clocks) (earlier between : List Event) (told : Event) (m g r : ℕ)
      → is_run rules s clocks (at_recorder g r drive ∷ (between ++ (told ∷ earlier))) ≡ true
      → answer_to rules s earlier told ≡ says_of "dead" m
      → answer_to rules s (between ++ (told ∷ earlier)) (at_recorder g r drive) ≡ says "running"
      → ⊥

-- of our steps, under all accepted settings, and with every window up to W
pub record DeadMeansDead : Type 0 where
  pub ours_are_safe : (s : Settings) → refusal_of s ≡ 0 → Safe ours s
  pub up_to_W : (s : Settings) → refusal_of s ≡ 0 → (w : Settings → ℕ) → w s ≤ window s → Safe (ours_within w) s

-- ---- 2. Detection

-- a round ends with dead, alive or unknown
abbrev pub Ended : Said Spoken → Type 0
Ended answer = (answer ≡ says "unknown") ⊎ ((m : ℕ) × ((answer ≡ says_of "dead" m) ⊎ (answer ≡ says_of "alive" m)))

unfoldable pub is_request : Message → Bool
is_request (LeaseRequest c) = true
is_request (LeaseGrant c) = false
is_request (Check ts) = false
is_request (CheckAck ts cnt status) = false

-- every request was sent by time f
unfoldable pub sent_by : (f : ℕ) → List Sent → Bool
sent_by f history = every (λ sent. not (is_request sent.what) || (sent.time ≤? f)) history

-- request c, arriving at time g, was sent at most D ticks before
abbrev pub arrives_within : (D : ℕ) → List Sent → (c g : ℕ) → Bool
arrives_within D history c g =
    every (λ sent. not (same_numbers (message_key sent.what) (message_key (LeaseRequest c))) || (g ≤? sent.time + D)) history

-- no request arrives more than D ticks after its sending: no copy of it, and no arrival that ends in a cut
unfoldable pub prompt : (D : ℕ) → List Sent → Event → Bool
prompt D history (at_recorder g r e) = true
prompt D history (at_observer x g r (request c)) = arrives_within D history c g
prompt D history (at_observer x g r (cut c k)) = arrives_within D history c g
prompt D history (at_observer x g r (check ts)) = true
prompt D history (at_standby g r e) = true
prompt D history (crash x g) = true
prompt D history (restart g) = true

unfoldable pub is_begin : Event → Bool
is_begin (at_recorder g r e) = false
is_begin (at_observer x g r e) = false
is_begin (at_standby g r begin) = true
is_begin (at_standby g r (ack x ts cnt status)) = false
is_begin (at_standby g r poll) = false
is_begin (crash x g) = false
is_begin (restart g) = false

abbrev pub no_begin : List Event → Bool
no_begin events = every (λ e. not (is_begin e)) events

-- the recorder had registered at some point of the run
abbrev pub RegisteredIn : Rules → Settings → List Event → Type 0
RegisteredIn rules s run =
    (later : List Event) × (past : List Event) × (run ≡ later ++ past) × (registered s (state_after rules s past).recorder ≡ true)

-- Rule 9.7: where the recorder had registered, sent no request after time f, and no request arrives more than D ticks after its
-- sending, every query begun at the bound or later that ends says dead.
abbrev pub Detects : Rules → Settings → Type 0
Detects rules s =
    (clocks : Clocks) (run : List Event) (f D : ℕ) → is_run rules s clocks run ≡ true
    → RegisteredIn rules s run
    → sent_by f (state_after rules s run).history ≡ true
    → every (prompt D (state_after rules s run).history) run ≡ true
    → (later between earlier : List Event) (ending : Event) (g ts : ℕ)
    → run ≡ later ++ (ending ∷ (between ++ (at_standby g ts begin ∷ earlier)))
    → no_begin between ≡ true
    → f + D + O s + 2 * rounding s ≤ g
    → Ended (answer_to rules s (between ++ (at_standby g ts begin ∷ earlier)) ending)
    → (m : ℕ) × (answer_to rules s (between ++ (at_standby g ts begin ∷ earlier)) ending ≡ says_of "dead" m)

-- ---- 3. One exchange

-- an ack of this ts from observer x, delivered by time `limit`
unfoldable pub ack_from : (x ts limit : ℕ) → Event → Bool
ack_from x ts limit (at_recorder g r e) = false
ack_from x ts limit (at_observer y g r e) = false
ack_from x ts limit (at_standby g r begin) = false
ack_from x ts limit (at_standby g r (ack y ts' cnt status)) = (y =? x) && (ts' =? ts) && (g ≤? limit)
ack_from x ts limit (at_standby g r poll) = false
ack_from x ts limit (crash y g) = false
ack_from x ts limit (restart g) = false

-- the sixteen observers by number
abbrev pub sixteen : List ℕ
sixteen = 0 ∷ 1 ∷ 2 ∷ 3 ∷ 4 ∷ 5 ∷ 6 ∷ 7 ∷ 8 ∷ 9 ∷ 10 ∷ 11 ∷ 12 ∷ 13 ∷ 14 ∷ 15 ∷ []

-- the observers whose acks of this ts were delivered by then
abbrev pub ackers : (ts limit : ℕ) → List Event → List Bool
ackers ts limit events = map (λ x. some (ack_from x ts limit) events) sixteen

unfoldable pub is_restart : Event → Bool
is_restart (at_recorder g r e) = false
is_restart (at_observer x g r e) = false
is_restart (at_standby g r e) = false
is_restart (crash x g) = false
is_restart (restart g) = true

-- the standby does not lose its record
abbrev pub no_restart : List Event → Bool
no_restart events = every (λ e. not (is_restart e)) events

-- Rule 9.8: a round whose query quorum's replies arrive within the timeliness bound ends in that round, unless a new round is
-- begun meanwhile, or the standby restarts meanwhile: the round is gone then.
abbrev pub EndsInOneExchange : Rules → Settings → Type 0
EndsInOneExchange rules s =
    (clocks : Clocks) (between earlier : List Event) (g ts : ℕ)
    → is_run rules s clocks (between ++ (at_standby g ts begin ∷ earlier)) ≡ true
    → no_begin between ≡ true
    → no_restart between ≡ true
    → closes s (ackers ts (g + Δ s) between) ≡ true
    → (later : List Event) × (past : List Event) × (e : Event)
    × (between ≡ later ++ (e ∷ past))
    × (time e ≤ g + Δ s)
    × Ended (answer_to rules s (past ++ (at_standby g ts begin ∷ earlier)) e)

-- ---- The three claims, of our steps under all accepted settings

abbrev pub DeadIsDetected : Type 0
DeadIsDetected = (s : Settings) → refusal_of s ≡ 0 → Detects ours s

abbrev pub OneExchangeEnds : Type 0
OneExchangeEnds = (s : Settings) → refusal_of s ≡ 0 → EndsInOneExchange ours s
