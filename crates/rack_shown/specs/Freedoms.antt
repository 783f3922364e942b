-- One run in which everything happens that a run allows: messages that arrive twice, late, or behind newer ones; every cut;
-- crashes and a restart; polls; silent requests; every refusal that a run can come to; clocks ahead and behind, each read to the
-- margin of its rounding; two rounds at one reading; several events on a tick; and a verdict after dead. It is shown by
-- computation, so that a model that loses one of these freedoms no longer proves.
use Rattle.std.specs.Prelude.{ℕ, ◌+◌, List, [], ◌∷◌, get_or}
use Rattle.std.proofs.Common.{arith}
use Rattle.settings.specs.declared.Settings.{Settings}
use Rattle.settings.specs.Settings.{settings}
use Rattle.messages.specs.declared.Status.TheVariants.{Alive, Dead}
use Rattle.messages.specs.declared.Message.TheVariants.{LeaseRequest, LeaseGrant, Check, CheckAck}
use Rattle.messages.specs.Answers.{sends, says, says_of, refuses}
use Rattle.recorder_rules.specs.declared.RecorderEvent.TheVariants.{Tick as tick, Grant as grant, Drive as drive}
use Rattle.observer_rules.specs.declared.ObserverEvent.TheVariants.{Request as request, Cut as cut, Check as check}
use Rattle.standby_rules.specs.declared.StandbyEvent.TheVariants.{Begin as begin, Ack as ack, Poll as poll}
use Rattle.rack.specs.Clocks.{Clock, Clocks}
use Rattle.rack.specs.Runs.{ours}
use Rattle.rack.specs.Runs.Event.{at_recorder, at_observer, at_standby, crash, restart}
use Rattle.rack_shown.specs.Tables.{ahead, Line, ◌gets◌, AsWritten}

-- three observers, two of which suffice: W = 2, slacks 0, 0, 122
abbrev pub three : Settings
three = settings 3 2 2 1 6 11 2

-- a clock that is `fast` ticks ahead of common time and `behind` ticks behind that
abbrev pub shifted : (fast behind : ℕ) → Clock
shifted fast behind = record { behind = behind; at = λ g. g + fast; steady = λ g span. omega arith }

-- recorder 2 ahead, standby 2 behind, observer 0 one ahead, observer 1 one behind
abbrev pub apart : Clocks
apart = record { recorder = shifted 3 1; standby = shifted 0 2; observer = λ x. get_or (ahead 1 ∷ shifted 0 1 ∷ []) x (ahead 0) }

unfoldable pub everything : List Line
everything =
    -- no round is open
    at_standby 10 8 poll gets refuses 7
    ∷ at_recorder 10 12 tick gets sends (LeaseRequest 1)
    -- observer 0 is cut before its stores, and at a second arrival behind them
    ∷ at_observer 0 10 11 (cut 1 0) gets says "cut"
    ∷ at_observer 0 10 11 (cut 1 2) gets says "cut"
    ∷ at_observer 1 10 9 (request 1) gets sends (LeaseGrant 1)
    ∷ at_observer 1 10 9 (request 1) gets says "silent"
    ∷ at_observer 2 10 10 (request 1) gets sends (LeaseGrant 1)
    -- there is no observer 3
    ∷ at_observer 3 10 10 (request 1) gets refuses 5
    ∷ at_recorder 10 12 (grant 1 1) gets says "unregistered"
    ∷ at_recorder 10 12 (grant 1 1) gets says "unregistered"
    ∷ at_recorder 10 12 (grant 2 1) gets says "running"
    -- nobody is answered
    ∷ crash 0 12 gets refuses 0
    -- the recorder reads one less than its clock, then the clock itself
    ∷ at_recorder 12 13 tick gets says "running"
    ∷ at_recorder 12 14 tick gets sends (LeaseRequest 2)
    ∷ at_observer 2 12 11 (request 2) gets sends (LeaseGrant 2)
    -- an older request behind a newer one
    ∷ at_observer 2 12 12 (request 1) gets says "silent"
    ∷ at_observer 1 12 11 (cut 2 3) gets refuses 9
    -- the deadline 22 under the old number
    ∷ at_observer 1 12 11 (cut 2 1) gets says "cut"
    ∷ at_recorder 12 14 (grant 2 2) gets says "running"
    ∷ at_recorder 12 14 drive gets says "running"
    -- lease 1 is 5 old by the recorder's reading
    ∷ at_recorder 16 17 drive gets says "running"
    ∷ at_standby 20 18 begin gets sends (Check 18)
    ∷ at_observer 1 20 18 (check 18) gets sends (CheckAck 18 1 Alive)
    ∷ at_standby 20 18 (ack 1 18 1 Alive) gets says "waiting"
    ∷ at_standby 20 18 (ack 1 18 1 Alive) gets says "waiting"
    ∷ at_standby 20 18 poll gets says "waiting"
    -- another round at the same reading, in which the ack of the first counts
    ∷ at_standby 21 18 begin gets sends (Check 18)
    ∷ at_standby 21 18 (ack 1 18 1 Alive) gets says "waiting"
    ∷ at_observer 2 21 21 (check 18) gets sends (CheckAck 18 2 Alive)
    ∷ at_standby 21 19 (ack 2 18 2 Alive) gets says_of "alive" 2
    ∷ at_standby 21 19 (ack 2 18 2 Alive) gets refuses 7
    ∷ at_standby 24 22 begin gets sends (Check 22)
    ∷ at_standby 24 22 (ack 1 18 1 Alive) gets refuses 8
    ∷ at_observer 0 24 24 (check 22) gets sends (CheckAck 22 1 Dead)
    ∷ at_observer 2 24 24 (check 22) gets sends (CheckAck 22 2 Dead)
    ∷ at_standby 24 22 (ack 0 22 1 Dead) gets says "waiting"
    -- the last reading of the window
    ∷ at_standby 26 24 (ack 2 22 2 Dead) gets says_of "dead" 2
    ∷ at_recorder 26 28 drive gets says "stopped"
    ∷ at_recorder 26 28 tick gets says "stopped"
    -- request 2 arrives at last, and its grant too: the recorder stays stopped
    ∷ at_observer 0 27 28 (request 2) gets sends (LeaseGrant 2)
    ∷ at_observer 1 27 26 (request 2) gets sends (LeaseGrant 2)
    ∷ at_recorder 27 29 (grant 0 2) gets says "stopped"
    -- a verdict after dead, and another one than dead
    ∷ at_standby 27 25 begin gets sends (Check 25)
    ∷ at_observer 0 27 28 (check 25) gets sends (CheckAck 25 2 Alive)
    ∷ at_observer 1 27 26 (check 25) gets sends (CheckAck 25 2 Alive)
    ∷ at_standby 27 25 (ack 0 25 2 Alive) gets says "waiting"
    ∷ at_standby 27 25 (ack 1 25 2 Alive) gets says_of "alive" 2
    ∷ at_standby 30 28 begin gets sends (Check 28)
    ∷ at_standby 31 29 poll gets says "waiting"
    -- the standby loses its record, and the round with it
    ∷ restart 31 gets refuses 0
    ∷ at_standby 31 29 poll gets refuses 7
    ∷ at_standby 31 29 begin gets sends (Check 29)
    ∷ at_standby 34 32 poll gets says "late"
    ∷ at_recorder 34 36 drive gets says "stopped"
    ∷ []

abbrev pub EverythingHappens : Type 0
EverythingHappens = AsWritten ours three apart everything
