-- The invariant holds along every run.
use Rattle.std.specs.Prelude.{if◌then◌else◌}
use Prim.Native.Nat.{ℕ, ◌≤◌, ◌<◌, max}
use native.Mathlib.Omega.{arith}
use native.Mathlib.Nat.{le_trans, le_refl}
use mathlib.Core.Path.{◌≡◌, refl, sym, ◌∙◌, subst}
use mathlib.Core.Bool.{Bool, true, false, ◌&&◌, ◌||◌, not}
use mathlib.Core.List.{List, [], ◌∷◌, ◌++◌, append-nil}
use mathlib.Core.Logic.{inl, inr}
use lib.ListN.{get_or}
use borrow.Author.Tests.{leb-true, eq-eqb}
use Rattle.words.specs.Tests.{◌=?◌, ◌≤?◌}
use Rattle.words.specs.Lists.{every}
use Rattle.words.proofs.Booleans.{both_hold, not_both}
use Rattle.settings.specs.declared.Settings.{Settings}
use Rattle.settings.specs.Settings.{window, refusal_of}
use Rattle.messages.specs.Answers.{says_of}
use Rattle.recorder_rules.specs.Recorder.{fresh as freshRecorder, granted, registered}
use Rattle.recorder_rules.specs.declared.RecorderEvent.{RecorderEvent}
use Rattle.recorder_rules.proofs.Grants.{granted_at}
use Rattle.recorder_rules.proofs.Keeping.{form_is_kept_lem}
use Rattle.recorder_rules.proofs.Formed.{formed}
use Rattle.recorder_rules.proofs.Placing.{zeros}
use Rattle.observer_rules.specs.declared.ObserverEvent.{ObserverEvent}
use Rattle.observer_rules.proofs.Laws.{form_is_kept_lem as observer-form}
use Rattle.standby_rules.specs.Standby.{step_within, no_places}
use Rattle.standby_rules.specs.declared.StandbyEvent.{StandbyEvent}
use Rattle.standby_rules.proofs.Forms.{form_is_kept_lem as standby-form}
use Rattle.standby_rules.proofs.Rounds.{none_kept}
use Rattle.rack.specs.Clocks.{Clocks}
use Rattle.rack.specs.Runs.{Rules, ours_within, Event, time, party_key, posted, perform, in_time, Reading, readings_at, rising, on_clock, delivered, state_after, answer_to, is_run}
use Rattle.rack.specs.Runs.Event.{at_recorder, at_observer, at_standby, crash, restart}
use Rattle.rack.specs.Runs.Party.{recorder, standby, observer}
use Rattle.rack.proofs.Clocks.{is_reading}
use Rattle.rack.proofs.History.{All, none, all_first, all_behind}
use Rattle.rack.proofs.Ends.{only_standby}
use Rattle.rack.proofs.Invariant.{Marks, Inv}
use Rattle.rack.proofs.AtRecorder.{recorder_kept}
use Rattle.rack.proofs.AtObserver.{Early, observer_kept, crash_kept}
use Rattle.rack.proofs.AtStandby.{ShowsFrom, standby_kept, restart_kept}

-- ---- time and readings so far

unfoldable pub now_of : List Event → ℕ
now_of [] = 0
now_of (e ∷ past) = time e

-- the greatest reading of a party, with these
with_readings : List Reading → (k top : ℕ) → ℕ
with_readings [] k top = top
with_readings (now ∷ more) k top = with_readings more k (if now.who =? k then max now.r top else top)

unfoldable pub top_of : List Event → (k : ℕ) → ℕ
unfolding with_readings
top_of [] k = 0
top_of (e ∷ past) k = with_readings (readings_at e) k (top_of past k)

top_up : (readings : List Reading) (k top : ℕ) → top ≤ with_readings readings k top
unfolding with_readings
top_up [] k top = le_refl top
top_up (now ∷ more) k top = le_trans (by (now.who =? k)) (top_up more k (if now.who =? k then max now.r top else top))
  where
    by : (b : Bool) → top ≤ (if b then max now.r top else top)
    by true = omega arith
    by false = le_refl top

-- no reading of the same party is above this one
abbrev none_above : Reading → List Reading → Bool
none_above now readings = every (λ old. not (old.who =? now.who) || (old.r ≤? now.r)) readings

abbrev is_not_above : Reading → Event → Bool
is_not_above now before = none_above now (readings_at before)

below_reading : (past : List Event) (now : Reading) → every (is_not_above now) past ≡ true → top_of past now.who ≤ now.r
unfolding top_of
below_reading [] now e = omega arith
below_reading (e ∷ past) now h =
    let p = both_hold (is_not_above now e) (every (is_not_above now) past) h in
    one (readings_at e) (top_of past now.who) p.0 (below_reading past now p.1)
  where
    one : (readings : List Reading) (top : ℕ) → none_above now readings ≡ true → top ≤ now.r
        → with_readings readings now.who top ≤ now.r
    one [] top h l = l
    one (old ∷ more) top h l =
        let p = both_hold (not (old.who =? now.who) || (old.r ≤? now.r)) (none_above now more) h in
        one more (if old.who =? now.who then max old.r top else top) p.1 (by (old.who =? now.who) p.0)
      where
        by : (b : Bool) → (not b || (old.r ≤? now.r)) ≡ true → (if b then max old.r top else top) ≤ now.r
        by true e = omega (arith, leb-true old.r now.r e)
        by false e = l

-- the reading of an event, if it has just one: not below the party's earlier ones, and remembered
module _ (past : List Event) (e : Event) (now : Reading) (only : readings_at e ≡ now ∷ []) where
  pub reading_of : rising past e ≡ true → top_of past now.who ≤ now.r
  unfolding rising
  reading_of h = below_reading past now (both_hold (every (is_not_above now) past) true (rw only at h)).0

  seen_of : now.r ≤ top_of (e ∷ past) now.who
  unfolding top_of with_readings
  seen_of = rw (only, eq-eqb now.who now.who refl) (omega arith)

top_rises : (past : List Event) (e : Event) (k : ℕ) → top_of past k ≤ top_of (e ∷ past) k
unfolding top_of
top_rises past e k = top_up (readings_at e) k (top_of past k)

-- ---- what makes an event part of a run

pub record Adds (rules : Rules) (s : Settings) (clocks : Clocks) (past : List Event) (e : Event) : Type 0 where
  pub before : is_run rules s clocks past ≡ true
  pub in_time_lem : in_time past e ≡ true
  pub no_fall : rising past e ≡ true
  pub on_clock_lem : on_clock s clocks e ≡ true
  pub arrived : delivered (state_after rules s past).history e ≡ true

pub adds : (rules : Rules) (s : Settings) (clocks : Clocks) (past : List Event) (e : Event)
    → is_run rules s clocks (e ∷ past) ≡ true → Adds rules s clocks past e
unfolding is_run
adds rules s clocks past e h =
    let a = is_run rules s clocks past in
    let b = in_time past e in
    let c = rising past e in
    let d = on_clock s clocks e in
    let f = delivered (state_after rules s past).history e in
    let p = both_hold (a && b && c && d) f h in
    let q = both_hold (a && b && c) d p.0 in
    let r = both_hold (a && b) c q.0 in
    let t = both_hold a b r.0 in
    record { before = t.0; in_time_lem = t.1; no_fall = r.1; on_clock_lem = q.1; arrived = p.1 }

-- the older part of a run is a run
pub part_of : (rules : Rules) (s : Settings) (clocks : Clocks) (later past : List Event)
    → is_run rules s clocks (later ++ past) ≡ true
    → is_run rules s clocks past ≡ true
part_of rules s clocks [] past h = h
part_of rules s clocks (e ∷ later) past h = part_of rules s clocks later past (adds rules s clocks (later ++ past) e h).before

pub time_kept : (past : List Event) (e : Event) → in_time past e ≡ true → now_of past ≤ time e
unfolding in_time now_of
time_kept [] e h = omega arith
time_kept (last ∷ past) e h = leb-true (time last) (time e) h

-- ---- the invariant at first, and kept by each event

-- a run that has come to nothing yet
abbrev pub nothing : Marks
nothing = record { told = false; reg = false; ts = 0; places = no_places }

module _ (s : Settings) (ok : refusal_of s ≡ 0) (w : Settings → ℕ) (window_fits : w s ≤ window s) (clocks : Clocks) (L : ℕ)
    (p : Bool) where
  abbrev rules : Rules
  rules = ours_within w

  -- the invariant of a list of events
  abbrev pub Holds : Marks → List Event → Type 0
  Holds marks events = Inv s clocks L p marks (now_of events) (top_of events) (state_after rules s events)

  pub at_first : Holds nothing []
  unfolding now_of top_of state_after
  at_first =
      let f = form_is_kept_lem.at_first s in
      let q = standby-form.at_first s in
      record {
        gh = record { S = λ c. 0; σ = λ c. 0; h = 0; reached = [] };
        recorder_part = record {
          good = record { form = formed s freshRecorder f.0; size = f.1 };
          h_past = omega arith;
          last = λ l. absurd (let z : 1 ≤ 0 = l in omega arith);
          sent = λ c l k. absurd (let z : c ≤ 0 = k in omega arith);
          opened = λ i o. absurd (let z : (1 ≤ i) × (i ≤ 0) = o in omega arith);
          ended = λ z c l k. absurd (let z : c < 1 = k in omega arith);
          granted = λ y j l k. absurd (omega (arith, zeros 16 y, k, l));
        };
        recorder_read = omega arith;
        observer_part = λ x.
            record {
              form = observer-form.at_first s;
              known = omega arith;
              store = λ l. absurd (let z : 1 ≤ 0 = l in omega arith);
              highest = λ j v b. absurd b;
              set_early = λ q. inl refl;
            };
        standby_part = record {
          form = q.0;
          sized = q.1;
          read = omega arith;
          kept = λ x k. absurd (none_kept x k);
        };
        history_part = none;
        early = λ q y j v b. absurd b;
        doom = λ t. absurd (not_both t refl);
        registered_early = λ t. absurd (not_both t refl);
        noted = λ x k. absurd (none_kept x k);
      }

  module _ (marks : Marks) (past : List Event) (inv : Holds marks past) where
    at_recorder_lem : (g r : ℕ) (e : RecorderEvent) → Adds rules s clocks past (at_recorder g r e)
        → Holds marks (at_recorder g r e ∷ past)
    unfolding now_of time state_after perform on_clock readings_at
    at_recorder_lem g r e add =
        recorder_kept s ok clocks L p inv g r (top_of (at_recorder g r e ∷ past))
        (time_kept past (at_recorder g r e) add.in_time_lem)
        (is_reading s clocks.recorder g r add.on_clock_lem).0
        (top_rises past (at_recorder g r e)) (seen_of past (at_recorder g r e) (record { who = party_key recorder; r = r }) refl)
        e add.arrived

    at_observer_lem : (x g r : ℕ) (e : ObserverEvent) → Adds rules s clocks past (at_observer x g r e)
        → (p ≡ true → Early L (at_observer x g r e))
        → Holds marks (at_observer x g r e ∷ past)
    unfolding now_of time state_after perform on_clock readings_at
    at_observer_lem x g r e add soon =
        observer_kept s ok clocks L p inv x g (top_of (at_observer x g r e ∷ past))
        (time_kept past (at_observer x g r e) add.in_time_lem) (top_rises past (at_observer x g r e)) r
        (is_reading s (clocks.observer x) g r add.on_clock_lem).0
        (reading_of past (at_observer x g r e) (record { who = party_key (observer x); r = r }) refl add.no_fall)
        (seen_of past (at_observer x g r e) (record { who = party_key (observer x); r = r }) refl)
        e add.arrived soon

    -- what an event at the standby may show
    abbrev pub ShowsAt : (g r : ℕ) → StandbyEvent → Marks → Type 0
    ShowsAt g r e marks' =
        ShowsFrom marks (state_after rules s past).standby e
        (step_within (w s) s (state_after rules s past).standby r e).answer marks'

    at_crash : (x g : ℕ) → Adds rules s clocks past (crash x g) → Holds marks (crash x g ∷ past)
    unfolding now_of time state_after perform posted
    at_crash x g add =
        crash_kept s ok clocks L p inv x g (top_of (crash x g ∷ past)) (time_kept past (crash x g) add.in_time_lem)
        (top_rises past (crash x g))

    at_restart : (g : ℕ) → Adds rules s clocks past (restart g) → Holds marks (restart g ∷ past)
    unfolding now_of time state_after perform
    at_restart g add =
        restart_kept s clocks L p inv g (top_of (restart g ∷ past)) (time_kept past (restart g) add.in_time_lem)
        (top_rises past (restart g))

    -- at the standby, with what the event shows
    pub keeps_standby : (g r : ℕ) (e : StandbyEvent) (add : Adds rules s clocks past (at_standby g r e)) (marks' : Marks)
        → ShowsAt g r e marks'
        → Holds marks' (at_standby g r e ∷ past)
    unfolding now_of time state_after perform on_clock readings_at
    keeps_standby g r e add marks' shows =
        standby_kept s ok (w s) window_fits clocks L p inv g r (top_of (at_standby g r e ∷ past))
        (time_kept past (at_standby g r e) add.in_time_lem) (top_rises past (at_standby g r e))
        (is_reading s clocks.standby g r add.on_clock_lem).0
        (seen_of past (at_standby g r e) (record { who = party_key standby; r = r }) refl)
        e add.arrived marks' shows

    pub keeps : (e : Event) → Adds rules s clocks past e → (p ≡ true → Early L e) → Holds marks (e ∷ past)
    keeps (at_recorder g r e) add soon = at_recorder_lem g r e add
    keeps (at_observer x g r e) add soon = at_observer_lem x g r e add soon
    keeps (at_standby g r e) add soon =
        keeps_standby g r e add marks (record { dead = inl; registered = refl; round = inl (refl, refl) })
    keeps (crash x g) add soon = at_crash x g add
    keeps (restart g) add soon = at_restart g add

    -- told dead in this very event
    abbrev pub told_dead : Marks
    told_dead = record { told = true; reg = marks.reg; ts = marks.ts; places = marks.places }

    pub tells : (e : Event) → Adds rules s clocks past e → (m : ℕ) → answer_to rules s past e ≡ says_of "dead" m
        → Holds told_dead (e ∷ past)
    unfolding answer_to perform
    tells e add m dead =
        only_standby w s past
        (λ v. Adds rules s clocks past v → answer_to rules s past v ≡ says_of "dead" m → Holds told_dead (v ∷ past))
        (λ g r v add said.
        keeps_standby g r v add told_dead (record { dead = λ t. inr (m, said); registered = refl; round = inl (refl, refl) }))
        e (inr (m, inl dead)) add dead

    -- a recorder that has registered: its first grants were stored early
    abbrev pub has_registered : Marks
    has_registered = record { told = marks.told; reg = true; ts = marks.ts; places = marks.places }

    pub registers : registered s (state_after rules s past).recorder ≡ true → Holds has_registered past
    unfolding registered
    registers is =
        record {
          gh = inv.gh;
          recorder_part = inv.recorder_part;
          recorder_read = inv.recorder_read;
          observer_part = inv.observer_part;
          standby_part = inv.standby_part;
          history_part = inv.history_part;
          early = inv.early;
          doom = inv.doom;
          registered_early = λ _ q. (
            granted (state_after rules s past).recorder 1,
            is,
            λ y m.
                let g =
                leb-true 1 (get_or (state_after rules s past).recorder.grants y 0)
                (sym (granted_at (state_after rules s past).recorder 1 y (le_refl 1)) ∙ m) in
                inv.early q y 1 inv.gh.h (inv.recorder_part.granted y 1 (le_refl 1) g),
          );
          noted = inv.noted;
        }

  -- what part of a run has come to, the rest keeps
  pub stays : (marks : Marks) (later past : List Event) → is_run rules s clocks (later ++ past) ≡ true
      → (p ≡ true → All (Early L) (later ++ past)) → Holds marks past → Holds marks (later ++ past)
  stays marks [] past run soon inv = inv
  stays marks (e ∷ later) past run soon inv =
      let a = adds rules s clocks (later ++ past) e run in
      keeps marks (later ++ past) (stays marks later past a.before (λ q. all_behind (e ∷ []) (soon q)) inv) e a
      (λ q. all_first (soon q))

  pub from_first : (events : List Event) → is_run rules s clocks events ≡ true → (p ≡ true → All (Early L) events)
      → Holds nothing events
  from_first events =
      subst (λ (l : List Event). is_run rules s clocks l ≡ true → (p ≡ true → All (Early L) l) → Holds nothing l)
      (append-nil events)
      (λ run soon. stays nothing events [] run soon at_first)

-- along a run, nothing being asked of when requests arrive
module _ (s : Settings) (ok : refusal_of s ≡ 0) (w : Settings → ℕ) (window_fits : w s ≤ window s) (clocks : Clocks) where
  pub from_start : (events : List Event) → is_run (ours_within w) s clocks events ≡ true
      → Holds s ok w window_fits clocks 0 false nothing events
  from_start events run = from_first s ok w window_fits clocks 0 false events run (λ z. absurd (not_both z refl))
