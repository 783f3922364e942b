-- Shortcuts that look harmless: each is a set of rules that differs from ours in one thing, and a run in which the standby is
-- told dead and the recorder drives on.
use Rattle.std.specs.Prelude.{ℕ, ◌+◌, ◌*◌, ◌-◌, false, ◌&&◌, not, List, [], ◌∷◌, reverse, get_or, take, if◌then◌else◌}
use Prim.Native.String.{String}
use Rattle.words.specs.Tests.{◌<?◌, ◌=?◌}
use Rattle.words.specs.Lists.{count_where}
use Rattle.words.specs.Said.{Said}
use Rattle.settings.specs.declared.Settings.{Settings}
use Rattle.settings.specs.Settings.{settings, usual, P, O, rounding, window}
use Rattle.quorums.specs.Quorums.{closes}
use Rattle.messages.specs.declared.Status.{Status}
use Rattle.messages.specs.declared.Status.TheVariants.{Alive, Dead}
use Rattle.messages.specs.declared.Message.TheVariants.{LeaseRequest, LeaseGrant, Check, CheckAck}
use Rattle.messages.specs.Answers.{Spoken, sends, says, says_of}
use Rattle.messages.specs.Outcomes.{Outcome, ◌leaving◌, unless_refused}
use Rattle.recorder_rules.specs.declared.Recorder.{Recorder}
use Rattle.recorder_rules.specs.Recorder as recorder
use Rattle.recorder_rules.specs.declared.RecorderEvent.{RecorderEvent}
use Rattle.recorder_rules.specs.declared.RecorderEvent.TheVariants.{Tick as tick, Grant as grant, Drive as drive}
use Rattle.observer_rules.specs.declared.Observer.{Observer}
use Rattle.observer_rules.specs.Observer as observer
use Rattle.observer_rules.specs.declared.ObserverEvent.{ObserverEvent}
use Rattle.observer_rules.specs.declared.ObserverEvent.TheVariants.{Request as request, Cut as cut, Check as check}
use Rattle.standby_rules.specs.declared.Place.{Place}
use Rattle.standby_rules.specs.declared.Standby.{Standby}
use Rattle.standby_rules.specs.Standby as standby
use Rattle.standby_rules.specs.declared.StandbyEvent.{StandbyEvent}
use Rattle.standby_rules.specs.declared.StandbyEvent.TheVariants.{Begin as begin, Ack as ack, Poll as poll}
use Rattle.rack.specs.Clocks.{Clocks}
use Rattle.rack.specs.Runs.{Rules, ours_within, ours}
use Rattle.rack.specs.Runs.Event.{at_recorder, at_observer, at_standby}
use Rattle.rack.specs.Claims.{Safe}
use Rattle.rack_shown.specs.Tables.{narrow, clocks_ahead, together, Line, ◌gets◌, AsWritten}

-- Rules refuted by a run under accepted settings: the run as the rules have it, that they are not safe, and what our rules say
-- at the same events.
pub record Unsafe (rules : Rules) (s : Settings) (clocks : Clocks) (theirs our_own : List Line) : Type 0 where
  pub run : AsWritten rules s clocks theirs
  pub not_safe : Safe rules s → ⊥
  pub with_our_rules : AsWritten ours s clocks our_own

-- ---- A wider window

-- Observer 0 is one tick ahead. The standby's last ack comes at r - ts = 3.
unfoldable pub asked_too_early : (told : Said Spoken) → List Line
asked_too_early told =
    at_recorder 0 0 tick gets sends (LeaseRequest 1)
    -- observer 0 stores the deadline 11
    ∷ at_observer 0 0 0 (request 1) gets sends (LeaseGrant 1)
    ∷ at_recorder 4 4 tick gets sends (LeaseRequest 2)
    -- observer 1 answers, and only then gets its first request
    ∷ at_standby 6 6 begin gets sends (Check 6)
    ∷ at_observer 1 6 6 (check 6) gets sends (CheckAck 6 0 Dead)
    ∷ at_observer 1 6 6 (request 2) gets sends (LeaseGrant 2)
    -- lease 1 is 5 old by the recorder's reading, hence open: 2 is granted in time
    ∷ at_recorder 6 5 (grant 1 2) gets says "running"
    ∷ at_standby 6 6 (ack 1 6 0 Dead) gets says "waiting"
    ∷ at_observer 0 10 11 (check 6) gets sends (CheckAck 6 1 Dead)
    ∷ at_standby 10 9 (ack 0 6 1 Dead) gets told
    ∷ at_recorder 10 9 drive gets says "running"
    ∷ []

-- by our own rules
abbrev pub asked_by_ours : List Line
asked_by_ours = asked_too_early (says "late")

-- Under these settings W is the greatest safe window: with one tick more our rules are not safe. (With t = n, where a query
-- quorum is a single observer, every window is safe.)
abbrev pub WindowPlusOneUnsafe : Type 0
WindowPlusOneUnsafe =
    Unsafe (ours_within (λ s. window s + 1)) narrow (clocks_ahead 0 0 (1 ∷ []))
    (asked_too_early (says_of "dead" 1)) asked_by_ours

-- two grains in place of three: under these settings, one tick more
abbrev pub TwoGrainsUnsafe : Type 0
TwoGrainsUnsafe =
    Unsafe (ours_within (λ s. O s - P s - 2 * rounding s)) narrow (clocks_ahead 0 0 (1 ∷ []))
    (asked_too_early (says_of "dead" 1)) asked_by_ours

-- The window O - P, 76 here, counts no rounding. All clocks round down to tens; observer 0 is 8 ahead, the standby 5.
unfoldable pub rounded_down : (told : Said Spoken) → List Line
rounded_down told =
    -- all observers get request 1
    at_recorder 1000 1000 tick gets sends (LeaseRequest 1)
    -- observer 0 stores the deadline 1235
    ∷ at_observer 0 1001 1000 (request 1) gets sends (LeaseGrant 1)
    ∷ at_observer 1 1001 1000 (request 1) gets sends (LeaseGrant 1)
    ∷ at_observer 2 1001 1000 (request 1) gets sends (LeaseGrant 1)
    ∷ at_recorder 1100 1100 tick gets sends (LeaseRequest 2)
    -- the standby asks, and hears observer 1 before it gets request 2
    ∷ at_standby 1155 1160 begin gets sends (Check 1160)
    ∷ at_observer 1 1156 1150 (check 1160) gets sends (CheckAck 1160 1 Alive)
    ∷ at_standby 1156 1160 (ack 1 1160 1 Alive) gets says "waiting"
    -- observers 1 and 2 grant request 2, and the grants arrive while lease 1 is 150 old by the recorder's reading
    ∷ at_observer 1 1157 1150 (request 2) gets sends (LeaseGrant 2)
    ∷ at_observer 2 1157 1150 (request 2) gets sends (LeaseGrant 2)
    ∷ at_recorder 1159 1150 (grant 1 2) gets says "unregistered"
    ∷ at_recorder 1159 1150 (grant 2 2) gets says "running"
    -- observer 0 has missed request 2
    ∷ at_observer 0 1232 1240 (check 1160) gets sends (CheckAck 1160 1 Dead)
    -- 70 by the standby's clock: past W = 49, and within O - P
    ∷ at_standby 1233 1230 (ack 0 1160 1 Dead) gets told
    ∷ at_recorder 1233 1230 drive gets says "running"
    ∷ []

abbrev pub NoRoundingUnsafe : Type 0
NoRoundingUnsafe =
    Unsafe (ours_within (λ s. O s - P s)) usual (clocks_ahead 0 5 (8 ∷ []))
    (rounded_down (says_of "dead" 1)) (rounded_down (says "late"))

-- ---- A grant counted before leases are ended: a recorder that slept wakes up

-- the grant goes in before the ended leases are looked at; else our steps
unfoldable pub grant_first : Settings → Recorder → (r : ℕ) → RecorderEvent → Outcome Recorder
grant_first s rec r tick = recorder.step_of s rec r tick
grant_first s rec r (grant x j) =
    unless_refused (recorder.grant_refusals s rec r x j) rec
    (recorder.accepted s (recorder.granting rec x j) r (recorder.drive_event s))
grant_first s rec r drive = recorder.step_of s rec r drive

abbrev pub counting_grants_first : Rules
counting_grants_first = record { recorder = grant_first; observer = ours.observer; standby = ours.standby }

-- Observer 1 alone grants 2 in time; the recorder, which needs two grants, then sleeps from 1120 to 1245.
unfoldable pub slept : (wakes : String) → List Line
slept wakes =
    at_recorder 1000 1000 tick gets sends (LeaseRequest 1)
    ∷ at_observer 0 1000 1000 (request 1) gets sends (LeaseGrant 1)
    ∷ at_observer 1 1000 1000 (request 1) gets sends (LeaseGrant 1)
    ∷ at_observer 2 1000 1000 (request 1) gets sends (LeaseGrant 1)
    ∷ at_recorder 1000 1000 (grant 1 1) gets says "unregistered"
    ∷ at_recorder 1000 1000 (grant 2 1) gets says "running"
    ∷ at_recorder 1100 1100 tick gets sends (LeaseRequest 2)
    ∷ at_observer 1 1110 1110 (request 2) gets sends (LeaseGrant 2)
    ∷ at_recorder 1120 1120 (grant 1 2) gets says "running"
    -- lease 1 has ended at 1159
    ∷ at_standby 1240 1240 begin gets sends (Check 1240)
    ∷ at_observer 0 1240 1240 (check 1240) gets sends (CheckAck 1240 1 Dead)
    ∷ at_observer 2 1240 1240 (check 1240) gets sends (CheckAck 1240 1 Dead)
    ∷ at_observer 2 1241 1241 (request 2) gets sends (LeaseGrant 2)
    ∷ at_standby 1242 1242 (ack 0 1240 1 Dead) gets says "waiting"
    ∷ at_standby 1242 1242 (ack 2 1240 1 Dead) gets says_of "dead" 1
    -- the second grant of 2, too late; lease 2 is 145 old
    ∷ at_recorder 1245 1245 (grant 2 2) gets says wakes
    ∷ at_recorder 1246 1246 drive gets says wakes
    ∷ []

abbrev pub GrantFirstUnsafe : Type 0
GrantFirstUnsafe = Unsafe counting_grants_first usual together (slept "running") (slept "stopped")

-- ---- The majority of statuses in place of the greatest counter

-- dead if more kept acks say Dead than Alive; m is named as in ours
unfoldable pub by_majority : List Place → Said Spoken
by_majority places =
    let dead = count_where (λ place. place.kept && standby.is_dead place.status) places in
    let alive = count_where (λ place. place.kept && not (standby.is_dead place.status)) places in
    if standby.greatest places =? 0 then says "unknown"
    else (if alive <? dead then says_of "dead" (standby.greatest places)
    else says_of "alive" (standby.greatest places))

-- the ack that closes a round gives that verdict; else our steps
unfoldable pub majority_step : Settings → Standby → (r : ℕ) → StandbyEvent → Outcome Standby
majority_step s q r begin = ours.standby s q r begin
majority_step s q r (ack x ts cnt status) =
    let places = standby.keeping x cnt status q.places in
    unless_refused (standby.ack_refusals s q r x ts cnt) q
    (if standby.is_late (window s) q r then says "late" leaving standby.closed r
    else (if get_or (standby.kept_marks q.places) x false then says "waiting" leaving standby.at_reading r q
    else (if closes s (standby.kept_marks places) then by_majority places leaving standby.closed r
    else standby.after_keeping s q r places)))
majority_step s q r poll = ours.standby s q r poll

abbrev pub by_majority_of_statuses : Rules
by_majority_of_statuses = record { recorder = ours.recorder; observer = ours.observer; standby = majority_step }

-- A round needs three acks. Observers 0 and 1 miss request 2; observer 2, which suffices for the recorder, grants it.
unfoldable pub outvoted : (told : String) → List Line
outvoted told =
    at_recorder 1000 1000 tick gets sends (LeaseRequest 1)
    ∷ at_observer 0 1000 1000 (request 1) gets sends (LeaseGrant 1)
    ∷ at_observer 1 1000 1000 (request 1) gets sends (LeaseGrant 1)
    ∷ at_recorder 1000 1000 (grant 0 1) gets says "running"
    ∷ at_recorder 1100 1100 tick gets sends (LeaseRequest 2)
    ∷ at_observer 2 1110 1110 (request 2) gets sends (LeaseGrant 2)
    ∷ at_recorder 1120 1120 (grant 2 2) gets says "running"
    ∷ at_standby 1240 1240 begin gets sends (Check 1240)
    ∷ at_observer 0 1240 1240 (check 1240) gets sends (CheckAck 1240 1 Dead)
    ∷ at_observer 1 1240 1240 (check 1240) gets sends (CheckAck 1240 1 Dead)
    ∷ at_observer 2 1240 1240 (check 1240) gets sends (CheckAck 1240 2 Alive)
    ∷ at_standby 1241 1241 (ack 0 1240 1 Dead) gets says "waiting"
    ∷ at_standby 1241 1241 (ack 1 1240 1 Dead) gets says "waiting"
    ∷ at_standby 1241 1241 (ack 2 1240 2 Alive) gets says_of told 2
    ∷ at_recorder 1245 1245 drive gets says "running"
    ∷ []

abbrev pub MajorityUnsafe : Type 0
MajorityUnsafe =
    Unsafe by_majority_of_statuses (settings 3 1 100 40 159 235 10) together (outvoted "dead") (outvoted "alive")

-- ---- Latest stored before the deadline

-- a cut leaves the first k of the stores in the other order; a request that is not cut does both; else our steps
unfoldable pub latest_first : Settings → Observer → (x r : ℕ) → ObserverEvent → Outcome Observer
latest_first s o x r (request c) = observer.step_of s o x r (request c)
latest_first s o x r (cut c k) =
    unless_refused (observer.cut_refusals s o x r c k) o
    (says "cut" leaving observer.at_reading 0 (observer.store_all (take k (reverse (observer.stores s o r c))) o))
latest_first s o x r (check ts) = observer.step_of s o x r (check ts)

abbrev pub storing_latest_first : Rules
storing_latest_first = record { recorder = ours.recorder; observer = latest_first; standby = ours.standby }

-- Observer 0 is cut between its stores at request 2: it shows the new counter under the old deadline.
unfoldable pub cut_between : (shown : ℕ) → Status → (told : String) → List Line
cut_between shown status told =
    at_recorder 1000 1000 tick gets sends (LeaseRequest 1)
    ∷ at_observer 0 1000 1000 (request 1) gets sends (LeaseGrant 1)
    ∷ at_observer 1 1000 1000 (request 1) gets sends (LeaseGrant 1)
    ∷ at_recorder 1000 1000 (grant 0 1) gets says "unregistered"
    ∷ at_recorder 1000 1000 (grant 1 1) gets says "running"
    ∷ at_recorder 1100 1100 tick gets sends (LeaseRequest 2)
    ∷ at_observer 0 1110 1110 (cut 2 1) gets says "cut"
    ∷ at_observer 1 1110 1110 (request 2) gets sends (LeaseGrant 2)
    ∷ at_observer 2 1110 1110 (request 2) gets sends (LeaseGrant 2)
    ∷ at_recorder 1120 1120 (grant 1 2) gets says "running"
    ∷ at_recorder 1120 1120 (grant 2 2) gets says "running"
    ∷ at_standby 1240 1240 begin gets sends (Check 1240)
    ∷ at_observer 0 1240 1240 (check 1240) gets sends (CheckAck 1240 shown status)
    ∷ at_observer 1 1240 1240 (check 1240) gets sends (CheckAck 1240 2 Alive)
    ∷ at_standby 1241 1241 (ack 0 1240 shown status) gets says "waiting"
    ∷ at_standby 1241 1241 (ack 1 1240 2 Alive) gets says_of told 2
    ∷ at_recorder 1245 1245 drive gets says "running"
    ∷ []

-- ours: the old counter under a new deadline
abbrev pub LatestFirstUnsafe : Type 0
LatestFirstUnsafe =
    Unsafe storing_latest_first usual together (cut_between 2 Dead "dead") (cut_between 1 Alive "alive")
