-- What may always happen.
use Prim.Native.Nat.{ℕ, suc, ◌+◌, ◌≤◌}
use native.Mathlib.Omega.{arith}
use mathlib.Core.Bool.{Bool, true, false, ◌&&◌, ◌||◌, not}
use mathlib.Core.List.{List, [], ◌∷◌, ◌++◌}
use mathlib.Core.Path.{◌≡◌, refl}
use lib.ListN.{get_or, take, drop}
use lib.Seq.{split_at}
use borrow.Author.Tests.{eq-eqb, eqb-true, le-leb, lt-ltb}
use Rattle.words.specs.Tests.{◌=?◌, ◌≤?◌}
use Rattle.words.specs.Lists.{every, some}
use Rattle.words.proofs.Conditions.{holds_both, holds_every}
use Rattle.settings.specs.declared.Settings.{Settings}
use Rattle.messages.specs.declared.Message.{Message}
use Rattle.messages.specs.declared.Message.TheVariants.{LeaseRequest, LeaseGrant, Check, CheckAck}
use Rattle.messages.specs.Messages.{top_reading}
use Rattle.recorder_rules.specs.declared.RecorderEvent.{RecorderEvent}
use Rattle.recorder_rules.specs.declared.RecorderEvent.TheVariants.{Tick as tick, Grant as grant, Drive as drive}
use Rattle.observer_rules.specs.declared.ObserverEvent.{ObserverEvent}
use Rattle.observer_rules.specs.declared.ObserverEvent.TheVariants.{Request as request, Cut as cut, Check as check}
use Rattle.standby_rules.specs.declared.StandbyEvent.{StandbyEvent}
use Rattle.standby_rules.specs.declared.StandbyEvent.TheVariants.{Begin as begin, Ack as ack, Poll as poll}
use Rattle.rack.specs.Clocks.{Clock, Clocks, reads}
use Rattle.rack.specs.Runs.{Rules, Event, Party, Sent, time, party_key, message_key, same_numbers, was_sent, in_time, readings_at, rising, on_clock, delivered, state_after, is_run}
use Rattle.rack.specs.Runs.Event.{at_recorder, at_observer, at_standby, crash, restart}
use Rattle.rack.specs.Runs.Party.{recorder, standby, observer}
use Rattle.rack.specs.Freedoms.{StandsIn, Timely, RecorderReads, ObserverReads, StandbyReads, AnythingMayHappen}
use Rattle.rack.proofs.History.{same_key}

-- one element that passes is enough
pub some_there : {A : Type 0} (test : A → Bool) (newer older : List A) (x : A) → test x ≡ true
    → some test (newer ++ (x ∷ older)) ≡ true
some_there test [] older x e = rw e
some_there test (y ∷ newer) older x e = by (test y) (some_there test newer older x e)
  where
    by : (b : Bool) → some test (newer ++ (x ∷ older)) ≡ true → (b || some test (newer ++ (x ∷ older))) ≡ true
    by true rest = refl
    by false rest = rest

-- what stands in the history was sent
pub was_sent_lem : (history : List Sent) (by : Party) (what : Message) → StandsIn history by what → was_sent history by what ≡ true
unfolding was_sent
was_sent_lem history by what m =
    rw m.3
    (some_there (λ sent. (party_key sent.by =? party_key by) && same_numbers (message_key sent.what) (message_key what))
    m.0 m.1
    (record { by = by; what = what; time = m.2 })
    (holds_both (eq-eqb (party_key by) (party_key by) refl) (same_key (message_key what))))

-- one event more
pub joins : (rules : Rules) (s : Settings) (clocks : Clocks) (past : List Event) (e : Event) → is_run rules s clocks past ≡ true
    → in_time past e ≡ true → rising past e ≡ true → on_clock s clocks e ≡ true
    → delivered (state_after rules s past).history e ≡ true
    → is_run rules s clocks (e ∷ past) ≡ true
unfolding is_run
joins rules s clocks past e run in_time_lem no_fall on_clock_lem came =
    holds_both (holds_both (holds_both (holds_both run in_time_lem) no_fall) on_clock_lem) came

-- a test that every event passes, wherever it stands
from_each : (test : Event → Bool) (past : List Event)
    → ((later earlier : List Event) (before : Event) → past ≡ later ++ (before ∷ earlier) → test before ≡ true)
    → every test past ≡ true
from_each test past each =
    holds_every test (restart 0) past
    (λ i h. each (take i past) (drop (suc i) past) (get_or past i (restart 0)) (split_at past i (restart 0) h))

-- an earlier event at which the party of this key, if it is its own, did not read more than r
abbrev is_not_more : (key r : ℕ) → Event → Bool
is_not_more key r before = every (λ old. not (old.who =? key) || (old.r ≤? r)) (readings_at before)

own_key : (key k r old : ℕ) → (k ≡ key → old ≤ r) → ((not (k =? key) || (old ≤? r)) && true) ≡ true
own_key key k r old not_more = by (k =? key) refl
  where
    by : (b : Bool) → (k =? key) ≡ b → ((not b || (old ≤? r)) && true) ≡ true
    by true e = rw (le-leb old r (not_more (eqb-true k key e)))
    by false e = refl

in_time_lem : (l : List Event) (e : Event) → ((last : Event) (before : List Event) → l ≡ last ∷ before → time last ≤ time e)
    → in_time l e ≡ true
unfolding in_time
in_time_lem [] e h = refl
in_time_lem (last ∷ before) e h = le-leb _ _ (h last before refl)

module _ (rules : Rules) (s : Settings) (clocks : Clocks) (past : List Event) where
  -- the reading is one of the clock, and in range
  read : {E : Type 0} {made : (g r : ℕ) → E → Event} (clock : Clock) (g r : ℕ)
      → Timely rules s clocks past {E = E} made clock g r
      → (reads s clock g r && (r ≤? top_reading)) ≡ true
  unfolding reads
  read clock g r t =
      holds_both (holds_both (le-leb _ _ t.not_above) (lt-ltb _ _ t.within_grain)) (le-leb _ _ t.in_range_lem)

  -- and not below an earlier one of the same party
  module _ (key r : ℕ)
      (recorders : (later earlier : List Event) (h old : ℕ) (e : RecorderEvent) → past ≡ later ++ (at_recorder h old e ∷ earlier)
      → 0 ≡ key → old ≤ r)
      (standbys : (later earlier : List Event) (h old : ℕ) (e : StandbyEvent) → past ≡ later ++ (at_standby h old e ∷ earlier)
      → 1 ≡ key → old ≤ r)
      (observers : (later earlier : List Event) (y h old : ℕ) (e : ObserverEvent)
      → past ≡ later ++ (at_observer y h old e ∷ earlier)
      → y + 2 ≡ key → old ≤ r) where
    not_more : (before : Event) (later earlier : List Event) → past ≡ later ++ (before ∷ earlier) → is_not_more key r before ≡ true
    unfolding readings_at party_key
    not_more (at_recorder h old e) later earlier p = own_key key 0 r old (recorders later earlier h old e p)
    not_more (at_observer y h old e) later earlier p = own_key key (y + 2) r old (observers later earlier y h old e p)
    not_more (at_standby h old e) later earlier p = own_key key 1 r old (standbys later earlier h old e p)
    not_more (crash y h) later earlier p = refl
    not_more (restart h) later earlier p = refl

    rises : every (is_not_more key r) past ≡ true
    rises = from_each (is_not_more key r) past (λ later earlier before. not_more before later earlier)

  recorder_rises : (g r : ℕ) → RecorderReads rules s clocks past g r → every (is_not_more 0 r) past ≡ true
  recorder_rises g r t =
      rises 0 r (λ later earlier h old e p _. t.no_fall later earlier h old e p) (λ _ _ _ _ _ _ z. absurd (omega (arith, z)))
      (λ _ _ _ _ _ _ _ z. absurd (omega (arith, z)))

  standby_rises : (g r : ℕ) → StandbyReads rules s clocks past g r → every (is_not_more 1 r) past ≡ true
  standby_rises g r t =
      rises 1 r (λ _ _ _ _ _ _ z. absurd (omega (arith, z))) (λ later earlier h old e p _. t.no_fall later earlier h old e p)
      (λ _ _ _ _ _ _ _ z. absurd (omega (arith, z)))

  observer_rises : (x g r : ℕ) → ObserverReads rules s clocks past x g r → every (is_not_more (x + 2) r) past ≡ true
  observer_rises x g r t =
      rises (x + 2) r (λ _ _ _ _ _ _ z. absurd (omega (arith, z))) (λ _ _ _ _ _ _ z. absurd (omega (arith, z)))
      (λ later earlier y h old e p z.
      let same : y ≡ x = omega (arith, z) in
      t.no_fall later earlier h old e (rw same at p))

  module _ (run : is_run rules s clocks past ≡ true) where
    recorder_may : (g r : ℕ) (e : RecorderEvent) → RecorderReads rules s clocks past g r
        → delivered (state_after rules s past).history (at_recorder g r e) ≡ true
        → is_run rules s clocks (at_recorder g r e ∷ past) ≡ true
    unfolding on_clock rising readings_at party_key time
    recorder_may g r e t came =
        joins rules s clocks past (at_recorder g r e) run (in_time_lem past (at_recorder g r e) t.in_time_lem)
        (holds_both (recorder_rises g r t) refl)
        (read clocks.recorder g r t) came

    observer_may : (x g r : ℕ) (e : ObserverEvent) → ObserverReads rules s clocks past x g r
        → delivered (state_after rules s past).history (at_observer x g r e) ≡ true
        → is_run rules s clocks (at_observer x g r e ∷ past) ≡ true
    unfolding on_clock rising readings_at party_key time
    observer_may x g r e t came =
        joins rules s clocks past (at_observer x g r e) run (in_time_lem past (at_observer x g r e) t.in_time_lem)
        (holds_both (observer_rises x g r t) refl)
        (read (clocks.observer x) g r t) came

    standby_may : (g r : ℕ) (e : StandbyEvent) → StandbyReads rules s clocks past g r
        → delivered (state_after rules s past).history (at_standby g r e) ≡ true
        → is_run rules s clocks (at_standby g r e ∷ past) ≡ true
    unfolding on_clock rising readings_at party_key time
    standby_may g r e t came =
        joins rules s clocks past (at_standby g r e) run (in_time_lem past (at_standby g r e) t.in_time_lem)
        (holds_both (standby_rises g r t) refl)
        (read clocks.standby g r t) came

pub anything_may_happen_lem : AnythingMayHappen
unfolding delivered on_clock rising readings_at time
anything_may_happen_lem rules s clocks past run =
    record {
      ticks = λ g r t. recorder_may rules s clocks past run g r tick t refl;
      drives = λ g r t. recorder_may rules s clocks past run g r drive t refl;
      begins = λ g r t. standby_may rules s clocks past run g r begin t refl;
      polls = λ g r t. standby_may rules s clocks past run g r poll t refl;
      restarts = λ g t. joins rules s clocks past (restart g) run (in_time_lem past (restart g) t) refl refl refl;
      crashes = λ x g t. joins rules s clocks past (crash x g) run (in_time_lem past (crash x g) t) refl refl refl;
      request_arrives = λ x g r c t m.
          observer_may rules s clocks past run x g r (request c) t (was_sent_lem _ recorder (LeaseRequest c) m);
      request_cut = λ x g r c k t m.
          observer_may rules s clocks past run x g r (cut c k) t (was_sent_lem _ recorder (LeaseRequest c) m);
      check_arrives = λ x g r ts t m. observer_may rules s clocks past run x g r (check ts) t (was_sent_lem _ standby (Check ts) m);
      grant_arrives = λ x g r j t m.
          recorder_may rules s clocks past run g r (grant x j) t (was_sent_lem _ (observer x) (LeaseGrant j) m);
      ack_arrives = λ x g r ts cnt status t m.
          standby_may rules s clocks past run g r (ack x ts cnt status) t (was_sent_lem _ (observer x) (CheckAck ts cnt status) m);
    }
