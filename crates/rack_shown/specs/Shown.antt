-- The claims of demand 3 are not empty: single runs that meet what they suppose, at the margin. Each is shown by computation.
use Rattle.std.specs.Prelude.{ℕ, ◌+◌, ◌*◌, ◌-◌, ◌≤◌, true, false, List, [], ◌∷◌, ◌++◌, ◌≡◌, pos}
use Prim.Native.String.{String}
use Rattle.words.specs.Lists.{every}
use Rattle.words.specs.Said.{Said}
use Rattle.settings.specs.declared.Settings.{Settings}
use Rattle.settings.specs.Settings.{usual, Δ, O, rounding, window, slack_b}
use Rattle.quorums.specs.Quorums.{closes}
use Rattle.messages.specs.declared.Status.{Status}
use Rattle.messages.specs.declared.Status.TheVariants.{Alive, Dead}
use Rattle.messages.specs.declared.Message.TheVariants.{LeaseRequest, LeaseGrant, Check, CheckAck}
use Rattle.messages.specs.Answers.{Spoken, refuses, sends, says, says_of}
use Rattle.recorder_rules.specs.declared.RecorderEvent.TheVariants.{Tick as tick, Grant as grant, Drive as drive}
use Rattle.observer_rules.specs.declared.ObserverEvent.TheVariants.{Request as request, Cut as cut, Check as check}
use Rattle.standby_rules.specs.declared.StandbyEvent.TheVariants.{Begin as begin, Ack as ack}
use Rattle.rack.specs.Clocks.{Clocks}
use Rattle.rack.specs.Runs.{Rules, ours, Event, state_after, answer_to, is_run}
use Rattle.rack.specs.Runs.Event.{at_recorder, at_observer, at_standby, restart}
use Rattle.rack.specs.Claims.{Detects, Ended, RegisteredIn, sent_by, prompt, no_begin, no_restart, ackers}
use Rattle.rack_shown.specs.Tables.{narrow, clocks_ahead, together, Line, ◌gets◌, run_of, AsWritten}

-- ---- 1. Safety

-- Observer 0 is one tick ahead. It grants the leases 1, 2 and 3 and gets no later request; observer 1 gets none at all.
unfoldable pub renewal_fails : List Line
renewal_fails =
    at_recorder 0 0 tick gets sends (LeaseRequest 1)
    ∷ at_observer 0 0 0 (request 1) gets sends (LeaseGrant 1)
    ∷ at_recorder 0 0 (grant 0 1) gets says "running"
    ∷ at_recorder 3 3 drive gets says "running"
    ∷ at_recorder 4 4 tick gets sends (LeaseRequest 2)
    ∷ at_observer 0 4 4 (request 2) gets sends (LeaseGrant 2)
    ∷ at_recorder 4 4 (grant 0 2) gets says "running"
    -- lease 1 has ended, and 2 is granted
    ∷ at_recorder 7 7 drive gets says "running"
    ∷ at_recorder 8 8 tick gets sends (LeaseRequest 3)
    -- observer 0 stores the deadline 19
    ∷ at_observer 0 8 8 (request 3) gets sends (LeaseGrant 3)
    ∷ at_recorder 8 8 (grant 0 3) gets says "running"
    -- this request is lost
    ∷ at_recorder 10 10 tick gets sends (LeaseRequest 4)
    -- lease 3 is 5 old by the recorder's reading
    ∷ at_recorder 14 13 drive gets says "running"
    -- one tick later the standby asks
    ∷ at_standby 15 15 begin gets sends (Check 15)
    ∷ at_observer 1 15 15 (check 15) gets sends (CheckAck 15 0 Dead)
    ∷ at_standby 15 15 (ack 1 15 0 Dead) gets says "waiting"
    -- the tick of the deadline, by observer 0's clock
    ∷ at_observer 0 18 19 (check 15) gets sends (CheckAck 15 3 Dead)
    -- r - ts = W
    ∷ at_standby 18 (15 + window narrow) (ack 0 15 3 Dead) gets says_of "dead" 3
    -- lease 3 has ended, and 4 is not granted
    ∷ at_recorder 18 17 drive gets says "stopped"
    ∷ []

-- A recorder drives under several leases until the tick before the standby asks, is refused renewal, and the standby is told
-- dead at the last reading of its window. The recorder's next drive is answered stopped.
abbrev pub DeadToldAtTheWindow : Type 0
DeadToldAtTheWindow = AsWritten ours narrow (clocks_ahead 0 0 (1 ∷ [])) renewal_fails

-- Request 2 reaches observers 1 and 2. Observer 0 has missed it, and says Dead with an old counter.
unfoldable pub renewed : List Line
renewed =
    at_recorder 1000 1000 tick gets sends (LeaseRequest 1)
    ∷ at_observer 0 1000 1000 (request 1) gets sends (LeaseGrant 1)
    ∷ at_observer 1 1000 1000 (request 1) gets sends (LeaseGrant 1)
    ∷ at_recorder 1000 1000 (grant 0 1) gets says "unregistered"
    ∷ at_recorder 1000 1000 (grant 1 1) gets says "running"
    ∷ at_recorder 1100 1100 tick gets sends (LeaseRequest 2)
    ∷ at_observer 1 1110 1110 (request 2) gets sends (LeaseGrant 2)
    ∷ at_observer 2 1110 1110 (request 2) gets sends (LeaseGrant 2)
    ∷ at_recorder 1120 1120 (grant 1 2) gets says "running"
    ∷ at_recorder 1120 1120 (grant 2 2) gets says "running"
    ∷ at_standby 1240 1240 begin gets sends (Check 1240)
    ∷ at_observer 0 1240 1240 (check 1240) gets sends (CheckAck 1240 1 Dead)
    ∷ at_observer 1 1240 1240 (check 1240) gets sends (CheckAck 1240 2 Alive)
    ∷ at_recorder 1240 1240 drive gets says "running"
    ∷ at_standby 1241 1241 (ack 0 1240 1 Dead) gets says "waiting"
    ∷ at_standby 1242 1242 (ack 1 1240 2 Alive) gets says_of "alive" 2
    ∷ at_recorder 1243 1243 drive gets says "running"
    ∷ []

-- The recorder drives on while a query says alive.
abbrev pub AliveToldWhileDriving : Type 0
AliveToldWhileDriving = AsWritten ours usual together renewed

-- ---- 2. Detection

-- the bound of rule 9.7
abbrev pub bound : Settings → (f D : ℕ) → ℕ
bound s f D = f + D + O s + 2 * rounding s

-- All that `Detects` supposes of a run and of the query in it, begun at time g, which is `least` or later.
pub record Supposed (rules : Rules) (s : Settings) (clocks : Clocks) (run : List Event) (f D least : ℕ)
    (later between earlier : List Event) (ending : Event) (g ts : ℕ) : Type 0 where
  pub is_run_lem : is_run rules s clocks run ≡ true
  pub registered : RegisteredIn rules s run
  pub last_sent : sent_by f (state_after rules s run).history ≡ true
  pub arrivals : every (prompt D (state_after rules s run).history) run ≡ true
  pub queried : run ≡ later ++ (ending ∷ (between ++ (at_standby g ts begin ∷ earlier)))
  pub one_query : no_begin between ≡ true
  pub begun : least ≤ g
  pub ends : Ended (answer_to rules s (between ++ (at_standby g ts begin ∷ earlier)) ending)

-- every such query says dead
abbrev pub DetectsFrom : (least : (f D : ℕ) → ℕ) → Rules → Settings → Type 0
DetectsFrom least rules s =
    (clocks : Clocks) (run : List Event) (f D : ℕ) (later between earlier : List Event) (ending : Event) (g ts : ℕ)
    → Supposed rules s clocks run f D (least f D) later between earlier ending g ts
    → (m : ℕ) × (answer_to rules s (between ++ (at_standby g ts begin ∷ earlier)) ending ≡ says_of "dead" m)

-- Request 2, sent at time f = 2, is the last. It arrives at f + D = 3, the latest time for D = 1, and observer 0 stores the
-- deadline 14. Before g the standby begins a round, and observer 0, which reads as little as it may, answers it.
unfoldable pub last_request : (g : ℕ) → Status → List Line
last_request g status =
    at_recorder 0 0 tick gets sends (LeaseRequest 1)
    ∷ at_observer 0 1 1 (request 1) gets sends (LeaseGrant 1)
    ∷ at_recorder 1 1 (grant 0 1) gets says "running"
    ∷ at_recorder 2 2 tick gets sends (LeaseRequest 2)
    ∷ at_observer 0 3 3 (request 2) gets sends (LeaseGrant 2)
    ∷ at_standby (g - 1) (g - 1) begin gets sends (Check (g - 1))
    ∷ at_observer 0 (g - 1) (g - 2) (check (g - 1)) gets sends (CheckAck (g - 1) 2 status)
    ∷ at_observer 1 (g - 1) (g - 1) (check (g - 1)) gets sends (CheckAck (g - 1) 0 Dead)
    ∷ []

-- The query is begun at time g, at the reading of that round: the acks of the earlier count in the later.
unfoldable pub query : (g : ℕ) → Status → (verdict : String) → List Line
query g status verdict =
    at_standby g (g - 1) begin gets sends (Check (g - 1))
    ∷ at_standby g g (ack 0 (g - 1) 2 status) gets says "waiting"
    ∷ at_standby g g (ack 1 (g - 1) 0 Dead) gets says_of verdict 2
    ∷ []

abbrev pub queried_at : (g : ℕ) → Status → (verdict : String) → List Line
queried_at g status verdict = last_request g status ++ query g status verdict

-- the table holds, and the query in it, begun at g, is one of those of which `Detects` speaks
pub record QueriedAt (g : ℕ) (status : Status) (verdict : String) : Type 0 where
  pub as_written : AsWritten ours narrow together (queried_at g status verdict)
  pub supposed :
      Supposed ours narrow together (run_of (queried_at g status verdict)) 2 1 g
      [] (at_standby g g (ack 0 (g - 1) 2 status) ∷ []) (run_of (last_request g status))
      (at_standby g g (ack 1 (g - 1) 0 Dead)) g (g - 1)

-- Begun at the bound itself, the query says dead.
abbrev pub BoundIsMet : Type 0
BoundIsMet = QueriedAt (bound narrow 2 1) Dead "dead"

-- Begun one tick before, it says alive.
abbrev pub BoundIsMissed : Type 0
BoundIsMissed = QueriedAt (bound narrow 2 1 - 1) Alive "alive"

-- So `Detects`, which is `DetectsFrom` the bound, fails with a bound less by a tick.
pub record BoundIsTight : Type 0 where
  pub run : BoundIsMissed
  pub stated : (rules : Rules) (s : Settings) → Detects rules s → DetectsFrom (bound s) rules s
  pub as_stated : (rules : Rules) (s : Settings) → DetectsFrom (bound s) rules s → Detects rules s
  pub not_before : DetectsFrom (λ f D. bound narrow f D - 1) ours narrow → ⊥

-- ---- 3. One exchange

-- The standby begins at time 1100, where it reads 9 less.
unfoldable pub asked : List Line
asked =
    at_recorder 1000 1000 tick gets sends (LeaseRequest 1)
    ∷ at_observer 0 1001 1001 (request 1) gets sends (LeaseGrant 1)
    ∷ at_observer 1 1001 1001 (request 1) gets sends (LeaseGrant 1)
    ∷ at_standby 1100 1091 begin gets sends (Check 1091)
    ∷ []

-- At the last ack, at time g, it reads the very time.
unfoldable pub replies : (g : ℕ) → (answer : Said Spoken) → List Line
replies g answer =
    at_observer 0 1110 1110 (check 1091) gets sends (CheckAck 1091 1 Alive)
    ∷ at_observer 1 1110 1110 (check 1091) gets sends (CheckAck 1091 1 Alive)
    ∷ at_standby 1120 1120 (ack 0 1091 1 Alive) gets says "waiting"
    ∷ at_standby g g (ack 1 1091 1 Alive) gets answer
    ∷ []

-- With slack b = 0, a round whose last ack comes at the timeliness bound ends; one tick later it is late.
pub record JustInTime : Type 0 where
  pub no_slack : slack_b usual ≡ pos 0
  pub in_time_lem : AsWritten ours usual together (asked ++ replies (1100 + Δ usual) (says_of "alive" 1))
  -- what `EndsInOneExchange` supposes: no other round is begun, the standby does not restart, and the replies of a query
  -- quorum arrive within the bound
  pub one_round : no_begin (run_of (replies (1100 + Δ usual) (says_of "alive" 1))) ≡ true
  pub no_restart_lem : no_restart (run_of (replies (1100 + Δ usual) (says_of "alive" 1))) ≡ true
  pub quorum : closes usual (ackers 1091 (1100 + Δ usual) (run_of (replies (1100 + Δ usual) (says_of "alive" 1)))) ≡ true
  pub too_late : AsWritten ours usual together (asked ++ replies (1100 + Δ usual + 1) (says "late"))

-- ---- What the claims suppose is needed

-- No request arrives, so the recorder does not register.
unfoldable pub unheard : (g : ℕ) → List Line
unheard g =
    at_recorder 0 0 tick gets sends (LeaseRequest 1)
    ∷ at_standby g g begin gets sends (Check g)
    ∷ at_observer 0 g g (check g) gets sends (CheckAck g 0 Dead)
    ∷ at_observer 1 g g (check g) gets sends (CheckAck g 0 Dead)
    ∷ at_standby g g (ack 0 g 0 Dead) gets says "waiting"
    ∷ at_standby g g (ack 1 g 0 Dead) gets says "unknown"
    ∷ []

-- Request 2 arrives at time 10, more than D = 1 after its sending, and is cut after the store of the deadline 21.
unfoldable pub cut_late : (g : ℕ) → List Line
cut_late g =
    at_recorder 0 0 tick gets sends (LeaseRequest 1)
    ∷ at_observer 0 1 1 (request 1) gets sends (LeaseGrant 1)
    ∷ at_recorder 1 1 (grant 0 1) gets says "running"
    ∷ at_recorder 2 2 tick gets sends (LeaseRequest 2)
    ∷ at_observer 0 10 10 (cut 2 1) gets says "cut"
    ∷ at_standby g g begin gets sends (Check g)
    ∷ at_observer 0 g g (check g) gets sends (CheckAck g 1 Alive)
    ∷ at_observer 1 g g (check g) gets sends (CheckAck g 0 Dead)
    ∷ at_standby g g (ack 0 g 1 Alive) gets says "waiting"
    ∷ at_standby g g (ack 1 g 0 Dead) gets says_of "alive" 1
    ∷ []

-- Behind `asked`: the second ack, in time, finds another round.
unfoldable pub begun_anew : List Line
begun_anew =
    at_observer 0 1110 1110 (check 1091) gets sends (CheckAck 1091 1 Alive)
    ∷ at_observer 1 1110 1110 (check 1091) gets sends (CheckAck 1091 1 Alive)
    ∷ at_standby 1120 1120 (ack 0 1091 1 Alive) gets says "waiting"
    ∷ at_standby 1130 1130 begin gets sends (Check 1130)
    ∷ at_standby 1140 1140 (ack 1 1091 1 Alive) gets refuses 8
    ∷ []

-- Behind `asked`: the second ack, in time, finds no round. Nobody is answered at the restart.
unfoldable pub restarted : List Line
restarted =
    at_observer 0 1110 1110 (check 1091) gets sends (CheckAck 1091 1 Alive)
    ∷ at_observer 1 1110 1110 (check 1091) gets sends (CheckAck 1091 1 Alive)
    ∷ at_standby 1120 1120 (ack 0 1091 1 Alive) gets says "waiting"
    ∷ restart 1130 gets refuses 0
    ∷ at_standby 1140 1140 (ack 1 1091 1 Alive) gets refuses 7
    ∷ []

-- Where one premise is lacking, the conclusion fails, though the query is begun at the bound and the replies come in time.
pub record PremisesNeeded : Type 0 where
  -- the recorder had registered
  pub unknown : AsWritten ours narrow together (unheard (bound narrow 0 0))
  pub not_registered : RegisteredIn ours narrow (run_of (unheard (bound narrow 0 0))) → ⊥
  pub unheard_sent : sent_by 0 (state_after ours narrow (run_of (unheard (bound narrow 0 0)))).history ≡ true
  pub unheard_prompt :
      every (prompt 0 (state_after ours narrow (run_of (unheard (bound narrow 0 0)))).history)
      (run_of (unheard (bound narrow 0 0))) ≡ true
  -- no request arrives after D, one that is cut included
  pub alive : AsWritten ours narrow together (cut_late (bound narrow 2 1))
  pub cut_sent : sent_by 2 (state_after ours narrow (run_of (cut_late (bound narrow 2 1)))).history ≡ true
  pub cut_not_prompt :
      every (prompt 1 (state_after ours narrow (run_of (cut_late (bound narrow 2 1)))).history)
      (run_of (cut_late (bound narrow 2 1))) ≡ false
  -- no new round is begun meanwhile
  pub refused : AsWritten ours usual together (asked ++ begun_anew)
  pub two_rounds : no_begin (run_of begun_anew) ≡ false
  pub both_replied : closes usual (ackers 1091 (1100 + Δ usual) (run_of begun_anew)) ≡ true
  -- the standby does not restart meanwhile
  pub lost : AsWritten ours usual together (asked ++ restarted)
  pub one_restart : no_restart (run_of restarted) ≡ false
  pub replied_as_well : closes usual (ackers 1091 (1100 + Δ usual) (run_of restarted)) ≡ true
