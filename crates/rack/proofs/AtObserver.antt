-- An event at an observer, and a crash of one, keep the invariant.
use Rattle.std.specs.Prelude.{if◌then◌else◌}
use Prim.Native.Nat.{ℕ, ◌+◌, ◌≤◌, ◌<◌}
use native.Mathlib.Omega.{arith}
use native.Mathlib.Nat.{le_trans, le_refl}
use mathlib.Core.Path.{◌≡◌, refl, sym, ◌∙◌}
use mathlib.Core.Bool.{Bool, true, false}
use mathlib.Core.List.{◌∷◌}
use mathlib.Core.Logic.{inl, inr, ⊎_elim}
use borrow.Author.Tests.{leb-true, leb-false, eqb-true, eqb-false}
use Rattle.words.specs.Tests.{◌=?◌, ◌≤?◌}
use Rattle.words.specs.Said.{Said}
use Rattle.settings.specs.declared.Settings.{Settings}
use Rattle.settings.specs.Settings.{n, O, rounding, refusal_of}
use Rattle.settings.proofs.Laws.{accepted}
use Rattle.messages.specs.declared.Status.TheVariants.{Alive, Dead}
use Rattle.messages.specs.declared.Message.{Message}
use Rattle.messages.specs.declared.Message.TheVariants.{LeaseRequest, LeaseGrant, Check, CheckAck}
use Rattle.messages.specs.Answers.{Spoken, sends, sent, message, refuses}
use Rattle.messages.specs.Outcomes.{Outcome, ◌leaving◌}
use Rattle.messages.proofs.Outcomes.{nothing_is_no_message, same_message}
use Rattle.observer_rules.specs.declared.Observer.{Observer}
use Rattle.observer_rules.specs.Observer.{last_reading_of, at_reading, store, step_of, status_at, restart_of, has_form}
use Rattle.observer_rules.specs.declared.ObserverEvent.{ObserverEvent}
use Rattle.observer_rules.specs.declared.ObserverEvent.TheVariants.{Request as request, Cut as cut, Check as check}
use Rattle.observer_rules.proofs.Laws.{dead_from_deadline_lem, form_is_kept_lem}
use Rattle.observer_rules.proofs.Laws.Stored.{unchanged, deadline_alone, both}
use Rattle.observer_rules.proofs.Ways.{Way, way}
use Rattle.observer_rules.proofs.Ways.Way.{refusing, granting, idle, cutting, acking}
use Rattle.rack.specs.Clocks.{Clocks}
use Rattle.rack.specs.Runs.{Event, State, party_key, put, posted, delivered, was_sent}
use Rattle.rack.specs.Runs.Event.{at_recorder, at_observer, at_standby, crash, restart}
use Rattle.rack.specs.Runs.Party.{recorder, standby, observer}
use Rattle.rack.proofs.Clocks.{Reads, lower, lease_passed}
use Rattle.rack.proofs.History.{posted_all}
use Rattle.rack.proofs.Ghost.{By, Ghost, Extends, stays, AckFact, Behind, history_on, ack_on, doomed_on}
use Rattle.rack.proofs.Invariant.{SetEarly, ObserverPart, Marks, Inv, behind, observer_on, standby_on, recorder_on}

-- the state after observer x has changed
abbrev pub after_observer : State → (x g : ℕ) → Observer → Said Spoken → State
after_observer st x g o answer =
    record {
      recorder = st.recorder;
      observers = put st.observers x o;
      standby = st.standby;
      history = posted (observer x) g answer st.history;
    }

-- a request that arrives here arrives by time L
abbrev pub Early : (L : ℕ) → Event → Type 0
Early L (at_recorder g r e) = Unit {0}
Early L (at_observer x g r (request c)) = g ≤ L
Early L (at_observer x g r (cut c k)) = g ≤ L
Early L (at_observer x g r (check ts)) = Unit {0}
Early L (at_standby g r e) = Unit {0}
Early L (crash x g) = Unit {0}
Early L (restart g) = Unit {0}

same_observer : {x y : ℕ} → observer x ≡ observer y → x ≡ y
same_observer e = cc

-- what holds of the changed observer, and of the others, holds of each
pub put_each : (F : ℕ → Observer → Type 0) (observers : ℕ → Observer) (x : ℕ) (o : Observer) → F x o
    → ((y : ℕ) → (y ≡ x → ⊥) → F y (observers y))
    → (y : ℕ) → F y (put observers x o y)
unfolding put
put_each F observers x o mine others y = by (y =? x) refl
  where
    by : (b : Bool) → (y =? x) ≡ b → F y (if b then o else observers y)
    by true e = rw (eqb-true y x e) mine
    by false e = others y (eqb-false y x e)

module _ (s : Settings) (ok : refusal_of s ≡ 0) (clocks : Clocks) (L : ℕ) (p : Bool)
    {marks : Marks} {now : ℕ} {top : ℕ → ℕ} {st : State} (inv : Inv s clocks L p marks now top st)
    (x g : ℕ) (top' : ℕ → ℕ) (later : now ≤ g) (up : (k : ℕ) → top k ≤ top' k) where
  abbrev counter : ℕ
  counter = st.recorder.counter

  abbrev gh : Ghost
  gh = inv.gh

  abbrev o : Observer
  o = st.observers x

  part : ObserverPart s clocks L p gh counter now (top (party_key (observer x))) x o
  part = inv.observer_part x

  -- everything but the observer's own part
  build : (gh' : Ghost) (o' : Observer) (answer : Said Spoken) → Extends gh counter now gh' counter g → gh'.S ≡ gh.S
      → gh'.σ ≡ gh.σ → gh'.h ≡ gh.h
      → ((y j v : ℕ) → (y ≡ x → ⊥) → By gh'.reached y j v → By gh.reached y j v)
      → (p ≡ true → (y j v : ℕ) → By gh'.reached y j v → By gh'.reached y j L)
      → ObserverPart s clocks L p gh' counter g (top' (party_key (observer x))) x o'
      → ((m : Message) → sent answer ≡ message m → Behind s clocks L p gh' counter g (observer x) m g)
      → Inv s clocks L p marks g top' (after_observer st x g o' answer)
  build gh' o' answer ext same_S same-σ same-h others soon mine news =
      record {
        gh = gh';
        recorder_part = recorder_on s clocks L p ext same_S same-σ same-h inv.recorder_part;
        recorder_read = le_trans inv.recorder_read (up _);
        observer_part =
            put_each (λ y o. ObserverPart s clocks L p gh' counter g (top' (party_key (observer y))) y o) st.observers x o'
            mine
            (λ y other. observer_on s clocks L p ext (up _) (λ j v. others y j v other) (inv.observer_part y));
        standby_part = standby_on s clocks L p ext (up _) inv.standby_part;
        history_part =
            posted_all (λ m. Behind s clocks L p gh' counter g m.by m.what m.time) (observer x) g answer st.history
            (history_on s clocks L p ext inv.history_part) news;
        early = soon;
        doom = λ t. let d = inv.doom t in (d.0, doomed_on s clocks L p ext d.1);
        registered_early = λ t q. let d = inv.registered_early t q in (d.0, d.1, λ y m. ext.keeps y 1 L (d.2 y m));
        noted = λ x k. ack_on s clocks L p ext (inv.noted x k);
      }

  -- the latest stays, and its store covers the deadline
  same_latest : (o' : Observer) → o'.latest ≡ o.latest
      → ((ρ : ℕ) → ρ ≤ top (party_key (observer x)) → ρ + O s ≤ o.deadline → ρ + O s ≤ o'.deadline)
      → (p ≡ true → SetEarly s clocks L p g x o'.deadline) → has_form s o' ≡ true
      → ObserverPart s clocks L p gh counter g (top' (party_key (observer x))) x o'
  same_latest o' l covers set form =
      record {
        form = form;
        known = rw l part.known;
        store = λ h.
            let old = part.store (rw l at h) in
            record {
              stored_at = old.stored_at;
              reading = old.reading;
              sent_before = rw l old.sent_before;
              past = le_trans old.past later;
              read = old.read;
              below = le_trans old.below (up _);
              runs = covers old.reading old.below old.runs;
            };
        highest = λ j v b. rw l (part.highest j v b);
        set_early = set;
      }

  -- but for its last reading the record is as it was, and nothing more is remembered
  as_stored : (last : ℕ) (answer : Said Spoken) → has_form s (at_reading last o) ≡ true
      → ((m : Message) → sent answer ≡ message m → Behind s clocks L p gh counter g (observer x) m g)
      → Inv s clocks L p marks g top' (after_observer st x g (at_reading last o) answer)
  as_stored last answer form =
      build gh (at_reading last o) answer (stays gh counter now g later) refl refl refl (λ y j v other b. b) inv.early
      (same_latest (at_reading last o) refl (λ ρ _ h. h)
      (λ q. ⊎_elim inl (λ d. inr (d.0, d.1, d.2, le_trans d.3 later, d.4, d.5)) (part.set_early q)) form)

  pub crash_kept : Inv s clocks L p marks g top' (after_observer st x g (restart_of o) (refuses 0))
  unfolding sent restart_of
  crash_kept = as_stored 0 (refuses 0) (form_is_kept_lem.by_restarts s o part.form) (λ m q. nothing_is_no_message q)

  -- ---- a step of the observer, at reading r

  module _ (r : ℕ) (read : Reads s (clocks.observer x) g r) (no_fall : top (party_key (observer x)) ≤ r)
      (seen : r ≤ top' (party_key (observer x))) where
    abbrev After : Outcome Observer → Type 0
    After out = Inv s clocks L p marks g top' (after_observer st x g out.rec out.answer)

    -- what stands behind all that the answer sends
    abbrev News : Ghost → Said Spoken → Type 0
    News gh' answer = (m : Message) → sent answer ≡ message m → Behind s clocks L p gh' counter g (observer x) m g

    just : (gh' : Ghost) (k : Message) → Behind s clocks L p gh' counter g (observer x) k g → News gh' (sends k)
    unfolding sent
    just gh' k fact m q = rw (← (same_message q)) fact

    -- Dead: the observers' lease has run since the request was sent
    is_dead_lem : status_at o r ≡ Dead → 1 ≤ o.latest → gh.S o.latest + O s ≤ g + rounding s
    is_dead_lem d l =
        let f = part.store l in
        let over = (dead_from_deadline_lem o r).0 d in
        let passed = lease_passed f.read read (le_trans f.past later) (le_trans f.runs over) in
        omega (arith, f.sent_before)

    -- Alive: it is not long since a request arrived
    is_alive : p ≡ true → status_at o r ≡ Alive → g < L + O s + rounding s
    is_alive q a =
        ⊎_elim (λ none. absurd (omega (arith, runs, none)))
        (λ d.
        let gain = lower d.4 read (le_trans d.3 later) in
        omega (arith, runs, d.2, d.3, d.5, (accepted s ok).b))
        (part.set_early q)
      where
        runs : r < o.deadline
        runs = by (o.deadline ≤? r) refl
          where
            by : (b : Bool) → (o.deadline ≤? r) ≡ b → r < o.deadline
            by true e =
                let d = sym ((dead_from_deadline_lem o r).1 (leb-true o.deadline r e)) ∙ a in
                let z : ◌≡◌ {A = ℕ} 0 1 = cc in
                absurd (let w : 0 ≡ 1 = z in omega arith)
            by false e = leb-false o.deadline r e

    -- an ack answers a check that was sent
    acked : (ts : ℕ) → x < n s → was_sent st.history standby (Check ts) ≡ true
        → AckFact s clocks L p gh counter g x ts o.latest (status_at o r)
    acked ts there came =
        let asked = behind s clocks L p inv standby (Check ts) came in
        let begun = asked.1 refl in
        record {
          is_observer = there;
          said_at = g;
          begun_at = asked.0;
          begun = begun.0;
          after = le_trans begun.1 later;
          past = le_refl g;
          known = part.known;
          low = λ j v b l. part.highest j v b;
          dead = is_dead_lem;
          alive = is_alive;
        }

    -- ---- the stored numbers stay, the deadline is renewed, or the latest too

    module _ (soon : p ≡ true → g ≤ L) (out : Outcome Observer) (form : has_form s out.rec ≡ true)
        (d : out.rec.deadline ≡ r + O s) where
      renewed : out.rec.latest ≡ o.latest → News gh out.answer → After out
      renewed l =
          build gh out.rec out.answer (stays gh counter now g later) refl refl refl (λ y j v other b. b) inv.early
          (same_latest out.rec l (λ ρ below _. rw d (omega (arith, below, no_fall)))
          (λ q. inr (g, r, soon q, le_refl g, read, d)) form)

      module _ (c : ℕ) (more : o.latest < c) (l : out.rec.latest ≡ c)
          (came : was_sent st.history recorder (LeaseRequest c) ≡ true) where
        abbrev remembered : Ghost
        remembered = record { S = gh.S; σ = gh.σ; h = gh.h; reached = record { y = x; j = c; v = g } ∷ gh.reached }

        on_remembered : Extends gh counter now remembered counter g
        on_remembered =
            record {
              same_S = λ k h. refl;
              counts = le_refl counter;
              later = later;
              keeps = λ y j v b. inr b;
              only_now = λ y j v. ⊎_elim (λ n. inr (le_trans later n.2)) inl;
            }

        stored : News remembered out.answer → After out
        stored =
            let sent_then = (behind s clocks L p inv recorder (LeaseRequest c) came).1 refl in
            build remembered out.rec out.answer on_remembered refl refl refl
            (λ y j v other. ⊎_elim (λ n. absurd (other (sym n.0))) (λ b. b))
            (λ q y j v. ⊎_elim (λ n. inl (n.0, n.1, soon q)) (λ b. inr (inv.early q y j v b)))
            (record {
              form = form;
              known = rw l sent_then.1;
              store = λ h.
                  record {
                    stored_at = g;
                    reading = r;
                    sent_before = rw (l, sent_then.2) (le_trans sent_then.3 later);
                    past = le_refl g;
                    read = read;
                    below = seen;
                    runs = rw d (le_refl (r + O s));
                  };
              highest = λ j v. ⊎_elim (λ n. rw l n.1) (λ b. rw l (omega (arith, part.highest j v b, more)));
              set_early = λ q. inr (g, r, soon q, le_refl g, read, d);
            })

    by_way : {event : ObserverEvent} {out : Outcome Observer} → Way s o x r event out → has_form s out.rec ≡ true
        → delivered st.history (at_observer x g r event) ≡ true → (p ≡ true → Early L (at_observer x g r event)) → After out
    unfolding delivered sent store
    by_way (refusing _ k) form came soon = as_stored (last_reading_of o) (refuses k) form (λ m q. nothing_is_no_message q)
    by_way (granting c there more _) form came soon =
        let out : Outcome Observer = sends (LeaseGrant c) leaving record { latest = c; deadline = r + O s; last_reading = r } in
        stored soon out form refl c more refl came
        (just (remembered soon out form refl c more refl came) (LeaseGrant c)
        (λ y who.
        let known = ((behind s clocks L p inv recorder (LeaseRequest c) came).1 refl).1 in
        rw (← (same_observer who)) (inl (refl, le_refl c, le_refl g), le_refl g, there, omega (arith, more), known)))
    by_way (idle c) form came soon = as_stored r _ form (λ m q. nothing_is_no_message q)
    by_way (cutting c k unchanged) form came soon = as_stored 0 _ form (λ m q. nothing_is_no_message q)
    by_way (cutting c k (deadline_alone _)) form came soon = renewed soon _ form refl refl (λ m q. nothing_is_no_message q)
    by_way (cutting c k (both more)) form came soon = stored soon _ form refl c more refl came (λ m q. nothing_is_no_message q)
    by_way (acking ts there _ _) form came soon =
        as_stored r _ form
        (just _ (CheckAck ts o.latest (status_at o r)) (λ y who. rw (← (same_observer who)) (acked ts there came)))

    pub observer_kept : (event : ObserverEvent) → delivered st.history (at_observer x g r event) ≡ true
        → (p ≡ true → Early L (at_observer x g r event)) → After (step_of s o x r event)
    observer_kept event = by_way (way s o x r event) (form_is_kept_lem.by_steps s o x r event part.form)
