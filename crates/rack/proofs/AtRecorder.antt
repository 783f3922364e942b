-- An event at the recorder keeps the invariant.
use Rattle.std.specs.Prelude.{if◌then◌else◌}
use Prim.Native.Nat.{ℕ, ◌+◌, ◌-◌, ◌≤◌, ◌<◌}
use native.Mathlib.Omega.{arith}
use native.Mathlib.Nat.{le_trans, le_refl}
use mathlib.Core.Path.{◌≡◌, refl, sym, ◌∙◌}
use mathlib.Core.Bool.{Bool, true, false}
use mathlib.Core.Logic.{inl, ⊎_elim}
use lib.ListN.{get_or}
use borrow.Author.Tests.{leb-true, eq-eqb, ne_eqb, eqb-true, eqb-false, ltb-true, ltb-false}
use Rattle.words.specs.Tests.{◌=?◌, ◌<?◌}
use Rattle.words.specs.Said.{Said}
use Rattle.settings.specs.declared.Settings.{Settings}
use Rattle.settings.specs.Settings.{P, rounding, refusal_of}
use Rattle.settings.proofs.Laws.{accepted, accepted_in_range}
use Rattle.messages.specs.declared.Message.{Message}
use Rattle.messages.specs.declared.Message.TheVariants.{LeaseGrant}
use Rattle.messages.specs.Answers.{Spoken, says, sent, message}
use Rattle.messages.specs.Outcomes.{Outcome, ◌leaving◌}
use Rattle.messages.proofs.Outcomes.{nothing_is_no_message}
use Rattle.recorder_rules.specs.declared.Recorder.{Recorder}
use Rattle.recorder_rules.specs.Recorder.{step_of, last_reading_of, oldest, granted, halted}
use Rattle.recorder_rules.specs.declared.RecorderEvent.{RecorderEvent as Event}
use Rattle.recorder_rules.specs.declared.RecorderEvent.TheVariants.{Grant as grant}
use Rattle.recorder_rules.proofs.Answers.{recorder_sends}
use Rattle.recorder_rules.proofs.Grants.{granted_at}
use Rattle.recorder_rules.proofs.Keeping.{Good, step_good}
use Rattle.recorder_rules.proofs.Steps.{Going, Quiet, Asking, leaves, IsOpen, sent_at, sent_young, oldest_after, closed_granted, sent_kept, sent_now, place_after}
use Rattle.recorder_rules.proofs.Ways.{each_way}
use Rattle.rack.specs.Clocks.{Clocks}
use Rattle.rack.specs.Runs.{State, party_key, posted, delivered, was_sent}
use Rattle.rack.specs.Runs.Event.{at_recorder}
use Rattle.rack.specs.Runs.Party.{recorder, observer}
use Rattle.rack.proofs.Clocks.{Reads, lower}
use Rattle.rack.proofs.History.{posted_all}
use Rattle.rack.proofs.Ghost.{By, Ghost, Extends, stays, Behind, EndedFact, ack_on, history_on, ended_on, doomed_on}
use Rattle.rack.proofs.Invariant.{RecorderPart, Marks, Inv, behind, recorder_on, observer_on, standby_on, by_weaker}

-- the state after the recorder's step
abbrev pub after_recorder : State → (g : ℕ) → Outcome Recorder → State
after_recorder st g out =
    record {
      recorder = out.rec;
      observers = st.observers;
      standby = st.standby;
      history = posted recorder g out.answer st.history;
    }

-- a function changed at one number
abbrev at : (ℕ → ℕ) → (c v : ℕ) → ℕ → ℕ
at f c v k = if k =? c then v else f k

at_same : (f : ℕ → ℕ) (c v k : ℕ) → k ≡ c → at f c v k ≡ v
at_same f c v k e = rw (eq-eqb k c e)

at_other : (f : ℕ → ℕ) (c v k : ℕ) → (k ≡ c → ⊥) → at f c v k ≡ f k
at_other f c v k e = rw (ne_eqb k c e)

module _ (s : Settings) (ok : refusal_of s ≡ 0) (clocks : Clocks) (L : ℕ) (p : Bool)
    {marks : Marks} {now : ℕ} {top : ℕ → ℕ} {st : State} (inv : Inv s clocks L p marks now top st)
    (g r : ℕ) (top' : ℕ → ℕ) (later : now ≤ g) (read : Reads s clocks.recorder g r) (up : (k : ℕ) → top k ≤ top' k)
    (seen : r ≤ top' (party_key recorder)) where
  abbrev rec : Recorder
  rec = st.recorder

  abbrev gh : Ghost
  gh = inv.gh

  part : RecorderPart s clocks L p gh now rec
  part = inv.recorder_part

  -- everything but the recorder's own part
  build : (gh' : Ghost) (out : Outcome Recorder) → Extends gh rec.counter now gh' out.rec.counter g
      → ((y j v : ℕ) → By gh'.reached y j v → By gh.reached y j v)
      → RecorderPart s clocks L p gh' g out.rec → last_reading_of out.rec ≤ top' (party_key recorder)
      → ((m : Message) → sent out.answer ≡ message m → Behind s clocks L p gh' out.rec.counter g recorder m g)
      → Inv s clocks L p marks g top' (after_recorder st g out)
  build gh' out ext same mine low news =
      record {
        gh = gh';
        recorder_part = mine;
        recorder_read = low;
        observer_part = λ x. observer_on s clocks L p ext (up _) (same x) (inv.observer_part x);
        standby_part = standby_on s clocks L p ext (up _) inv.standby_part;
        history_part =
            posted_all (λ m. Behind s clocks L p gh' out.rec.counter g m.by m.what m.time) recorder g
            out.answer st.history
            (history_on s clocks L p ext inv.history_part) news;
        early = λ q y j v b. ext.keeps y j L (inv.early q y j v (same y j v b));
        doom = λ t. let d = inv.doom t in (d.0, doomed_on s clocks L p ext d.1);
        registered_early = λ t q. let d = inv.registered_early t q in (d.0, d.1, λ y m. ext.keeps y 1 L (d.2 y m));
        noted = λ x k. ack_on s clocks L p ext (inv.noted x k);
      }

  -- the record as it came
  unchanged : (answer : Said Spoken) → ((m : Message) → sent answer ≡ message m → ⊥)
      → Inv s clocks L p marks g top' (after_recorder st g (answer leaving rec))
  unchanged answer mute =
      build gh (answer leaving rec) (stays gh rec.counter now g later) (λ y j v b. b)
      (recorder_on s clocks L p (stays gh rec.counter now g later) refl refl refl part)
      (le_trans inv.recorder_read (up _))
      (λ m q. absurd (mute m q))

  -- the same memory, the last step being this one
  abbrev now_here : Ghost
  now_here = record { S = gh.S; σ = gh.σ; h = g; reached = gh.reached }

  on_here : Extends gh rec.counter now now_here rec.counter g
  on_here =
      record {
        same_S = λ c l. refl;
        counts = le_refl rec.counter;
        later = later;
        keeps = λ y j v b. b;
        only_now = λ y j v b. inl b;
      }

  stopping : Good s (halted rec r) → Inv s clocks L p marks g top' (after_recorder st g (says "stopped" leaving halted rec r))
  unfolding sent
  stopping good =
      build now_here (says "stopped" leaving halted rec r) on_here (λ y j v b. b)
      (record {
        good = good;
        h_past = le_refl g;
        last = λ l. read;
        sent = λ c l k. let d = part.sent c l k in (d.0, le_trans d.1 (le_trans part.h_past later));
        opened = part.opened;
        ended = λ z. absurd (let o : 1 ≡ 0 = z in omega arith);
        granted = λ y j l k.
            by_weaker gh.reached y j j gh.h g (le_refl j) (le_trans part.h_past later) (part.granted y j l k);
      })
      seen
      (λ m q. nothing_is_no_message q)

  -- ---- a step that goes on to its event

  module _ (event : Event) (on : Going s rec r event) (arrived : delivered st.history (at_recorder g r event) ≡ true) where
    abbrev next : Outcome Recorder
    next = step_of s rec r event

    -- a lease that ends now was young at the last step, so that step was not long after it was sent
    in_time_lem : (c : ℕ) → 1 ≤ c → IsOpen rec c → gh.h < gh.S c + P s + rounding s
    in_time_lem c l is_open =
        let d = part.sent c l is_open.1 in
        let young = sent_young s rec part.good.form part.good.size on.running c is_open in
        let below : last_reading_of rec - gh.σ c < P s = rw (part.opened c is_open) at young in
        let gain = lower d.0 (part.last (le_trans l is_open.1)) d.1 in
        omega (arith, (accepted s ok).b, (accepted_in_range s ok).P_least, (accepted_in_range s ok).Δ_least)

    -- it had its grants, and they were stored by then
    ends_now : (c : ℕ) → 1 ≤ c → IsOpen rec c → c < oldest next.rec → EndedFact s clocks L p gh c
    ends_now c l is_open below = (
      granted rec (c + 1),
      closed_granted s rec r event part.good.size on c is_open.0 below,
      λ y m.
          let g = leb-true (c + 1) (get_or rec.grants y 0) (sym (granted_at rec (c + 1) y (omega arith)) ∙ m) in
          (gh.h, in_time_lem c l is_open, part.granted y (c + 1) (omega arith) g),
    )

    ended_after : (c : ℕ) → 1 ≤ c → c < oldest next.rec → c ≤ rec.counter → EndedFact s clocks L p gh c
    ended_after c l below k = by (c <? oldest rec) refl
      where
        by : (b : Bool) → (c <? oldest rec) ≡ b → EndedFact s clocks L p gh c
        by true e = part.ended on.running c l (ltb-true c (oldest rec) e)
        by false e = ends_now c l (ltb-false c (oldest rec) e, k) below

    -- what a place holds after the event: what it held, or a grant that has arrived
    granted_after : (y j : ℕ) → 1 ≤ j → j ≤ get_or next.rec.grants y 0 → By gh.reached y j g
    unfolding delivered
    granted_after y j l k = ⊎_elim old new (place_after s rec r event y)
      where
        past : gh.h ≤ g
        past = le_trans part.h_past later

        old : get_or next.rec.grants y 0 ≡ get_or rec.grants y 0 → By gh.reached y j g
        old e = by_weaker gh.reached y j j gh.h g (le_refl j) past (part.granted y j l (rw e at k))

        new : (i : ℕ) × (event ≡ grant y i) × (get_or next.rec.grants y 0 ≡ i) → By gh.reached y j g
        new d =
            let came : was_sent st.history (observer y) (LeaseGrant d.0) ≡ true = rw d.1 at arrived in
            let m = behind s clocks L p inv (observer y) (LeaseGrant d.0) came in
            let f = m.1 y refl in
            by_weaker gh.reached y d.0 j m.0 g (rw d.2 at k) (le_trans f.1 later) f.0

    oldest_rises : oldest rec ≤ oldest next.rec
    oldest_rises = omega (arith, oldest_after s rec r event part.good.size on)

    quiet : Good s next.rec → Quiet s rec r next → Inv s clocks L p marks g top' (after_recorder st g next)
    quiet good q =
        build now_here next (rw q.counter on_here) (λ y j v b. b)
        (record {
          good = good;
          h_past = le_refl g;
          last = λ l. rw q.reading read;
          sent = λ c l k.
              let d = part.sent c l (rw q.counter at k) in (d.0, le_trans d.1 (le_trans part.h_past later));
          opened = λ i is_open.
              let k : i ≤ rec.counter = rw q.counter at is_open.1 in
              sent_kept s rec r event part.good.size on i is_open.0 k
              ∙ part.opened i (le_trans oldest_rises is_open.0, k);
          ended = λ z c l below. ended_after c l below (known c below);
          granted = granted_after;
        })
        (rw q.reading seen)
        (λ m e. absurd (omega (arith, q.counter, (recorder_sends s rec r m event e).1)))
      where
        known : (c : ℕ) → c < oldest next.rec → c ≤ rec.counter
        known c below = omega (arith, q.counter, good.form.leases_counter)

    -- a request: its time and reading are remembered
    abbrev remembered : Ghost
    remembered =
        record { S = at gh.S (rec.counter + 1) g; σ = at gh.σ (rec.counter + 1) r; h = g; reached = gh.reached }

    earlier_S : (c : ℕ) → c ≤ rec.counter → remembered.S c ≡ gh.S c
    earlier_S c k = at_other gh.S (rec.counter + 1) g c (λ e. let w : c ≡ rec.counter + 1 = e in omega arith)

    earlier_σ : (c : ℕ) → c ≤ rec.counter → remembered.σ c ≡ gh.σ c
    earlier_σ c k = at_other gh.σ (rec.counter + 1) r c (λ e. let w : c ≡ rec.counter + 1 = e in omega arith)

    on_remembered : Extends gh rec.counter now remembered (rec.counter + 1) g
    on_remembered =
        record { same_S = earlier_S; counts = omega arith; later = later; keeps = λ y j v b. b; only_now = λ y j v b. inl b }

    asking : Good s next.rec → Asking s rec r next → Inv s clocks L p marks g top' (after_recorder st g next)
    asking good a =
        build remembered next (rw a.counter on_remembered) (λ y j v b. b)
        (record {
          good = good;
          h_past = le_refl g;
          last = λ l. rw a.reading read;
          sent = λ c l k. sent_after c l (rw a.counter at k);
          opened = λ i is_open. opened_after i is_open.0 (rw a.counter at is_open.1);
          ended = λ z c l below. ended_on s clocks L p on_remembered (known c below) (ended_after c l below (known c below));
          granted = granted_after;
        })
        (rw a.reading seen)
        news
      where
        known : (c : ℕ) → c < oldest next.rec → c ≤ rec.counter
        known c below =
            omega (arith, a.counter, good.form.leases_counter, good.form.some_lease (omega (arith, a.counter)))

        sent_after : (c : ℕ) → 1 ≤ c → c ≤ rec.counter + 1
            → Reads s clocks.recorder (remembered.S c) (remembered.σ c) × (remembered.S c ≤ g)
        sent_after c l k = by (c =? rec.counter + 1) refl
          where
            by : (b : Bool) → (c =? rec.counter + 1) ≡ b
                → Reads s clocks.recorder (if b then g else gh.S c) (if b then r else gh.σ c)
                × ((if b then g else gh.S c) ≤ g)
            by true e = (read, le_refl g)
            by false e =
                let other = eqb-false c (rec.counter + 1) e in
                let d = part.sent c l (omega (arith, k, other)) in
                (d.0, le_trans d.1 (le_trans part.h_past later))

        opened_after : (i : ℕ) → oldest next.rec ≤ i → i ≤ rec.counter + 1 → sent_at next.rec i ≡ remembered.σ i
        opened_after i h k = by (i =? rec.counter + 1) refl
          where
            by : (b : Bool) → (i =? rec.counter + 1) ≡ b → sent_at next.rec i ≡ (if b then r else gh.σ i)
            by true e = rw (eqb-true i (rec.counter + 1) e) (sent_now s rec r event part.good.size on a)
            by false e =
                let other = eqb-false i (rec.counter + 1) e in
                let l : i ≤ rec.counter = omega (arith, k, other) in
                sent_kept s rec r event part.good.size on i h l ∙ part.opened i (le_trans oldest_rises h, l)

        news : (m : Message) → sent next.answer ≡ message m
            → Behind s clocks L p remembered next.rec.counter g recorder m g
        news m e =
            rw ((recorder_sends s rec r m event e).0, a.counter)
            (λ _. (omega arith, le_refl _, at_same gh.S (rec.counter + 1) g (rec.counter + 1) refl, le_refl g))

    goes : Inv s clocks L p marks g top' (after_recorder st g next)
    goes =
        let good = step_good s rec r event part.good in
        ⊎_elim (quiet good) (λ a. asking good a.1) (leaves s rec r event part.good.size on)

  pub recorder_kept : (event : Event) → delivered st.history (at_recorder g r event) ≡ true
      → Inv s clocks L p marks g top' (after_recorder st g (step_of s rec r event))
  unfolding sent
  recorder_kept event arrived =
      each_way s rec r event (λ out. step_of s rec r event ≡ out → Inv s clocks L p marks g top' (after_recorder st g out))
      (record {
        refused = λ _ _. unchanged _ (λ m q. nothing_is_no_message q);
        stopped = λ _ _ _. unchanged _ (λ m q. nothing_is_no_message q);
        stopping = λ _ _ _ same. stopping (rw same at (step_good s rec r event part.good));
        going_on = λ passes running not_lacking same.
            let on : Going s rec r event =
            record { passes = passes; running = running; not_lacking = not_lacking; outcome = same } in
            rw same at (goes event on arrived);
      })
      refl
