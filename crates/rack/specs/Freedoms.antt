-- What may always happen. A claim about all runs says the less the fewer runs there are, so this says what no run forbids
-- (rules 9.1 to 9.4): steps at any time, loss of power, and every arrival of a message that was sent.
use Rattle.std.specs.Prelude.{ℕ, ◌+◌, ◌≤◌, ◌<◌, true, List, ◌∷◌, ◌++◌, ◌≡◌}
use Rattle.settings.specs.declared.Settings.{Settings}
use Rattle.settings.specs.Settings.{G}
use Rattle.messages.specs.declared.Status.{Status}
use Rattle.messages.specs.declared.Message.{Message}
use Rattle.messages.specs.declared.Message.TheVariants.{LeaseRequest, LeaseGrant, Check, CheckAck}
use Rattle.messages.specs.Messages.{top_reading}
use Rattle.recorder_rules.specs.declared.RecorderEvent.{RecorderEvent}
use Rattle.recorder_rules.specs.declared.RecorderEvent.TheVariants.{Tick as tick, Grant as grant, Drive as drive}
use Rattle.observer_rules.specs.declared.ObserverEvent.{ObserverEvent}
use Rattle.observer_rules.specs.declared.ObserverEvent.TheVariants.{Request as request, Cut as cut, Check as check}
use Rattle.standby_rules.specs.declared.StandbyEvent.{StandbyEvent}
use Rattle.standby_rules.specs.declared.StandbyEvent.TheVariants.{Begin as begin, Ack as ack, Poll as poll}
use Rattle.rack.specs.Clocks.{Clock, Clocks}
use Rattle.rack.specs.Runs.{Rules, Event, Party, Sent, time, state_after, is_run}
use Rattle.rack.specs.Runs.Event.{at_recorder, at_observer, at_standby, crash, restart}
use Rattle.rack.specs.Runs.Party.{recorder, standby, observer}

-- the party has sent this message, at some time: it stands somewhere in the history
abbrev pub StandsIn : List Sent → (by : Party) → (what : Message) → Type 0
StandsIn history by what =
    (newer : List Sent) × (older : List Sent) × (g : ℕ)
    × (history ≡ newer ++ (record { by = by; what = what; time = g } ∷ older))

module _ (rules : Rules) (s : Settings) (clocks : Clocks) (past : List Event) where
  -- not before the last event
  abbrev pub NotBefore : (g : ℕ) → Type 0
  NotBefore g = (last : Event) (before : List Event) → past ≡ last ∷ before → time last ≤ g

  -- The party whose events `made` makes may read r at time g, which is not before the last event: its clock shows r or more then,
  -- and less than the grain above it; r is in range; and at no earlier event has it read more.
  pub record Timely {E : Type 0} (made : (g r : ℕ) → E → Event) (clock : Clock) (g r : ℕ) : Type 0 where
    pub in_time_lem : NotBefore g
    pub not_above : r + clock.behind ≤ clock.at g
    pub within_grain : clock.at g < r + clock.behind + G s
    pub in_range_lem : r ≤ top_reading
    pub no_fall : (later earlier : List Event) (h old : ℕ) (e : E) → past ≡ later ++ (made h old e ∷ earlier) → old ≤ r

  abbrev pub RecorderReads : (g r : ℕ) → Type 0
  RecorderReads g r = Timely {E = RecorderEvent} (λ h old e. at_recorder h old e) clocks.recorder g r

  abbrev pub ObserverReads : (x g r : ℕ) → Type 0
  ObserverReads x g r = Timely {E = ObserverEvent} (λ h old e. at_observer x h old e) (clocks.observer x) g r

  abbrev pub StandbyReads : (g r : ℕ) → Type 0
  StandbyReads g r = Timely {E = StandbyEvent} (λ h old e. at_standby h old e) clocks.standby g r

  -- with this event more it is a run again
  abbrev pub MayHappen : Event → Type 0
  MayHappen e = is_run rules s clocks (e ∷ past) ≡ true

  abbrev pub WasSent : (by : Party) → (what : Message) → Type 0
  WasSent by what = StandsIn (state_after rules s past).history by what

  pub record Free : Type 0 where
    -- the recorder ticks and drives whenever its host likes
    pub ticks : (g r : ℕ) → RecorderReads g r → MayHappen (at_recorder g r tick)
    pub drives : (g r : ℕ) → RecorderReads g r → MayHappen (at_recorder g r drive)
    -- the standby begins and polls whenever its host likes
    pub begins : (g r : ℕ) → StandbyReads g r → MayHappen (at_standby g r begin)
    pub polls : (g r : ℕ) → StandbyReads g r → MayHappen (at_standby g r poll)
    -- the standby may lose its record, and every observer its power
    pub restarts : (g : ℕ) → NotBefore g → MayHappen (restart g)
    pub crashes : (x g : ℕ) → NotBefore g → MayHappen (crash x g)
    -- A message that was sent may arrive at whom it was sent to, whether or not it has arrived before: a request of the recorder
    -- at every observer, which may lose its power after any number of stores;
    pub request_arrives : (x g r c : ℕ) → ObserverReads x g r → WasSent recorder (LeaseRequest c)
        → MayHappen (at_observer x g r (request c))
    pub request_cut : (x g r c k : ℕ) → ObserverReads x g r → WasSent recorder (LeaseRequest c)
        → MayHappen (at_observer x g r (cut c k))
    -- a check of the standby at every observer;
    pub check_arrives : (x g r ts : ℕ) → ObserverReads x g r → WasSent standby (Check ts)
        → MayHappen (at_observer x g r (check ts))
    -- a grant of observer x at the recorder, as one of x;
    pub grant_arrives : (x g r j : ℕ) → RecorderReads g r → WasSent (observer x) (LeaseGrant j)
        → MayHappen (at_recorder g r (grant x j))
    -- an ack of observer x at the standby, as one of x.
    pub ack_arrives : (x g r ts cnt : ℕ) (status : Status) → StandbyReads g r → WasSent (observer x) (CheckAck ts cnt status)
        → MayHappen (at_standby g r (ack x ts cnt status))

-- under all rules and settings, with all clocks, behind every run
abbrev pub AnythingMayHappen : Type 0
AnythingMayHappen =
    (rules : Rules) (s : Settings) (clocks : Clocks) (past : List Event) → is_run rules s clocks past ≡ true
    → Free rules s clocks past
