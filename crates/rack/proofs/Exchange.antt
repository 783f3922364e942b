-- Claim 3: a round whose query quorum's acks arrive within the timeliness bound ends by the last of them.
use Prim.Native.Nat.{ℕ, zero, suc, ◌+◌, ◌-◌, ◌≤◌, ◌<◌}
use native.Mathlib.Omega.{arith}
use native.Mathlib.Nat.{le_trans, le_refl, add-zero, zero-add, add-suc, suc-add}
use mathlib.Core.Path.{◌≡◌, refl, sym, ap, ◌∙◌, subst}
use mathlib.Core.Bool.{Bool, true, false, ◌&&◌, ◌||◌, not, and-false}
use mathlib.Core.List.{List, [], ◌∷◌, ◌++◌, map}
use mathlib.Core.Logic.{◌⊎◌, inl, inr, ⊎_elim}
use lib.ListN.{length, get_or-map}
use lib.Seq.{get_or-set_same}
use borrow.Author.Tests.{leb-true, leb-false, le-ltb, lt-leb, eqb-true}
use Rattle.words.specs.Tests.{◌=?◌, ◌≤?◌}
use Rattle.words.specs.Lists.{every, some}
use Rattle.words.specs.Said.{first}
use Rattle.words.proofs.Booleans.{both_hold, not_both}
use Rattle.settings.specs.declared.Settings.{Settings}
use Rattle.settings.specs.Settings.{Δ, window, refusal_of}
use Rattle.quorums.specs.Quorums.{closes, ◌∋◌}
use Rattle.settings.proofs.Laws.{accepted, accepted_in_range, window_law}
use Rattle.quorums.proofs.Quorums.{quorums_grow_lem}
use Rattle.messages.specs.declared.Status.{Status}
use Rattle.messages.specs.declared.Message.TheVariants.{CheckAck}
use Rattle.messages.specs.Messages.{top_reading}
use Rattle.messages.specs.Outcomes.{Outcome}
use Rattle.messages.proofs.Outcomes.{not_refused}
use Rattle.standby_rules.specs.declared.Place.{Place}
use Rattle.standby_rules.specs.declared.Standby.{Standby}
use Rattle.standby_rules.specs.Standby.{step_within, ack_event, ack_refusals, has_open_round, unused, no_places, kept_marks, keeping, verdict, greatest}
use Rattle.standby_rules.specs.declared.StandbyEvent.{StandbyEvent}
use Rattle.standby_rules.specs.declared.StandbyEvent.TheVariants.{Begin as begin, Ack as ack, Poll as poll}
use Rattle.standby_rules.specs.Claims.{Kept}
use Rattle.standby_rules.proofs.Forms.{form_says, form_is_kept_lem}
use Rattle.standby_rules.proofs.Refusals.{Counted, ack_passes, each_ack}
use Rattle.standby_rules.proofs.Rounds.{kept_stays_lem}
use Rattle.standby_rules.proofs.Verdicts.{by_verdict}
use Rattle.standby_rules.proofs.Ways.{Way, way}
use Rattle.standby_rules.proofs.Ways.Way.{refusing, beginning, expiring, staying, closing, counting}
use Rattle.rack.specs.Clocks.{Clocks}
use Rattle.rack.specs.Runs.{ours, Event, time, delivered, on_clock, perform, state_after, answer_to, is_run}
use Rattle.rack.specs.Runs.Event.{at_recorder, at_observer, at_standby, crash, restart}
use Rattle.rack.specs.Runs.Party.{observer}
use Rattle.rack.specs.Claims.{Ended, is_begin, no_begin, is_restart, no_restart, ack_from, sixteen, ackers, OneExchangeEnds}
use Rattle.rack.proofs.Clocks.{Reads, is_reading, upper}
use Rattle.rack.proofs.Invariant.{behind}
use Rattle.rack.proofs.Along.{now_of, Adds, adds, part_of, time_kept, nothing, Holds, from_start}
use Rattle.rack.proofs.Rounds.{admits, begin_opens, no_begin_lem}

-- a verdict ends the round
verdict_ends : (places : List Place) → Ended (verdict places)
verdict_ends places =
    by_verdict Ended places (λ _. inl refl) (λ _ _. inr (greatest places, inl refl)) (λ _ _. inr (greatest places, inr refl))

-- the mark of an observer among the sixteen
unfoldable pub up_from : (a k : ℕ) → List ℕ
up_from a zero = []
up_from a (suc k) = a ∷ up_from (suc a) k

marks_at : (f : ℕ → Bool) (k a x : ℕ) → map f (up_from a k) ∋ x → f (a + x) ≡ true
unfolding up_from
marks_at f zero a zero m = absurd (not_both m refl)
marks_at f zero a (suc x) m = absurd (not_both m refl)
marks_at f (suc k) a zero m = rw (add-zero a) m
marks_at f (suc k) a (suc x) m = rw (add-suc a x, ← (suc-add a x)) (marks_at f k (suc a) x m)

sixteen_marks : (f : ℕ → Bool) (x : ℕ) → map f sixteen ∋ x → f x ≡ true
unfolding up_from
sixteen_marks f x m = rw (zero-add x) at (marks_at f 16 0 x m)

-- an event in time that begins no round ends the open one or leaves it open
goes_on : (w : ℕ) (s : Settings) (q : Standby) (r : ℕ) {e : StandbyEvent} {out : Outcome Standby} → Way w s q r e out
    → (e ≡ begin → ⊥) → r - q.ts ≤ w → has_open_round q ≡ true
    → Ended out.answer ⊎ ((has_open_round out.rec ≡ true) × (out.rec.ts ≡ q.ts))
goes_on w s q r (refusing _ k) other early is_open = inr (is_open, refl)
goes_on w s q r beginning other early is_open = absurd (other refl)
goes_on w s q r (expiring _ late) other early is_open = absurd (omega (arith, late, early))
goes_on w s q r (staying _ kept) other early is_open = inr (is_open, refl)
goes_on w s q r (closing x cnt status _ _) other early is_open = inl (verdict_ends (keeping x cnt status q.places))
goes_on w s q r (counting _ _ _ _) other early is_open = inr (is_open, refl)

-- an ack of the open round, in time and not refused: it ends the round, or its observer's place is kept
ack_counts : (w : ℕ) (s : Settings) (q : Standby) (r x cnt : ℕ) (status : Status) → first (ack_refusals s q r x q.ts cnt) ≡ 0
    → length q.places ≡ 16 → x < 16 → r - q.ts ≤ w
    → Ended (step_within w s q r (ack x q.ts cnt status)).answer
    ⊎ Kept (step_within w s q r (ack x q.ts cnt status)).rec.places x
unfolding step_within
ack_counts w s q r x cnt status fine sized there early =
    rw (not_refused (ack_refusals s q r x q.ts cnt) q (ack_event w s q r x cnt status) fine)
    (each_ack w s q r x cnt status (λ out. Ended out.answer ⊎ Kept out.rec.places x)
    (record {
      late = λ late. absurd (not_both late (le-ltb w (r - q.ts) early));
      second = λ _ kept. inr (sym (get_or-map (λ place. place.kept) q.places x unused) ∙ kept);
      closing = λ _ _ _. inl (verdict_ends (keeping x cnt status q.places));
      waiting = λ _ _ _. inr (ap (λ (place : Place). place.kept) (get_or-set_same q.places x _ unused (rw sized there)));
    }))

-- no ack after the limit is delivered by it
none_after : (ts limit : ℕ) (e : Event) → limit < time e → (x : ℕ) → ack_from x ts limit e ≡ false
unfolding time ack_from
none_after ts limit (at_recorder g r e) past x = refl
none_after ts limit (at_observer y g r e) past x = refl
none_after ts limit (at_standby g r begin) past x = refl
none_after ts limit (at_standby g r (ack y ts' cnt status)) past x =
    rw (lt-leb g limit past) (and-false ((y =? x) && (ts' =? ts)))
none_after ts limit (at_standby g r poll) past x = refl
none_after ts limit (crash y g) past x = refl
none_after ts limit (restart g) past x = refl

module _ (s : Settings) (ok : refusal_of s ≡ 0) (clocks : Clocks) (earlier : List Event) (g ts : ℕ) where
  abbrev limit : ℕ
  limit = g + Δ s

  abbrev since : List Event → List Event
  since between = between ++ (at_standby g ts begin ∷ earlier)

  abbrev standby_after : List Event → Standby
  standby_after events = (state_after ours s events).standby

  abbrev Held : List Event → Type 0
  Held events = Holds s ok window (le_refl (window s)) clocks 0 false nothing events

  held : (events : List Event) → is_run ours s clocks events ≡ true → Held events
  held events h = from_start s ok window (le_refl (window s)) clocks events h

  -- some event so far, in time, has ended the round
  abbrev EndedIn : List Event → Type 0
  EndedIn between =
      (later : List Event) × (past : List Event) × (e : Event)
      × (between ≡ later ++ (e ∷ past))
      × (time e ≤ limit)
      × Ended (answer_to ours s (since past) e)

  -- or every ack of the round that came in time is kept, short of a quorum
  pub record Waiting (between : List Event) : Type 0 where
    pub places : List Place
    pub short : closes s (kept_marks places) ≡ false
    pub acks : (x : ℕ) → some (ack_from x ts limit) between ≡ true → Kept places x
    pub state : now_of (since between) ≤ limit
        → (has_open_round (standby_after (since between)) ≡ true) × ((standby_after (since between)).ts ≡ ts)
        × ((standby_after (since between)).places ≡ places)

  -- common time has not fallen since the begin
  begun_before : (between : List Event) → is_run ours s clocks (since between) ≡ true → g ≤ now_of (since between)
  unfolding now_of time
  begun_before [] h = le_refl g
  begun_before (e ∷ between) h =
      let a = adds ours s clocks (since between) e h in
      le_trans (begun_before between a.before) (time_kept (since between) e a.in_time_lem)

  module _ (whole : is_run ours s clocks (since []) ≡ true) where
    at_begin : Adds ours s clocks earlier (at_standby g ts begin)
    at_begin = adds ours s clocks earlier (at_standby g ts begin) whole

    begun : Reads s clocks.standby g ts
    unfolding on_clock
    begun = (is_reading s clocks.standby g ts at_begin.on_clock_lem).0

    ts_fine : ts ≤ top_reading
    unfolding on_clock
    ts_fine = (is_reading s clocks.standby g ts at_begin.on_clock_lem).1

    at_first : Waiting []
    unfolding now_of
    at_first =
        let is =
        begin_opens s ok window (le_refl (window s)) clocks 0 false nothing earlier (held earlier at_begin.before) g ts
        at_begin in
        record {
          places = no_places;
          short = rw is at (form_says s (standby_after (since [])) (held (since []) whole).standby_part.form).below_quorum;
          acks = λ x e. absurd (not_both e refl);
          state = λ h. (rw is, rw is, rw is);
        }

    -- ---- one event more

    module _ (between : List Event) (run : is_run ours s clocks (since between) ≡ true) (wait : Waiting between) where
      abbrev q : Standby
      q = standby_after (since between)

      -- nothing of the round happens: the same is kept
      as_before : (e : Event) → now_of (since between) ≤ time e → ((x : ℕ) → ack_from x ts limit e ≡ false)
          → (time e ≤ limit → standby_after (since (e ∷ between)) ≡ q)
          → Waiting (e ∷ between)
      unfolding now_of
      as_before e later none same =
          record {
            places = wait.places;
            short = wait.short;
            acks = λ x h. wait.acks x (rw (none x) at h);
            state = λ h. rw (same h) (wait.state (le_trans later h));
          }

      -- what came after the limit counts for nothing
      too_late : (e : Event) → now_of (since between) ≤ time e → limit < time e → Waiting (e ∷ between)
      too_late e later past = as_before e later (none_after ts limit e past) (λ h. absurd (omega (arith, h, past)))

      module _ (g' r : ℕ) (later : now_of (since between) ≤ g') (in_time_lem : g' ≤ limit) where
        is_open : has_open_round q ≡ true
        is_open = (wait.state (le_trans later in_time_lem)).0

        its_ts : q.ts ≡ ts
        its_ts = (wait.state (le_trans later in_time_lem)).1

        its_places : q.places ≡ wait.places
        its_places = (wait.state (le_trans later in_time_lem)).2

        -- in time by the standby's clock too
        early : Reads s clocks.standby g' r → r - q.ts ≤ window s
        early read =
            let since_begin = le_trans (begun_before between run) later in
            let gain = upper begun read since_begin (omega (arith, in_time_lem, (accepted s ok).b)) in
            omega (arith, its_ts, in_time_lem, window_law s ok, (accepted s ok).b)

        -- an ack of this round is not refused
        ack_fine : (x cnt : ℕ) (status : Status) → Adds ours s clocks (since between) (at_standby g' r (ack x ts cnt status))
            → (first (ack_refusals s q r x q.ts cnt) ≡ 0) × (x < 16)
        unfolding delivered
        ack_fine x cnt status add =
            let i = held (since between) run in
            let a = (behind s clocks 0 false i (observer x) (CheckAck ts cnt status) add.arrived).1 x refl in
            let fine =
            admits s ok window (le_refl (window s)) clocks 0 false nothing (since between) i g' r (ack x ts cnt status) add in
            let counted : Counted s q r x q.ts cnt =
            record {
              admitted = fine;
              observer = a.is_observer;
              counter = le_trans a.known i.recorder_part.good.form.counter_top;
              open_round = is_open;
              its_ts = refl;
            } in
            let small = (accepted_in_range s ok).n_greatest in
            (ack_passes s q r x q.ts cnt counted (rw its_ts ts_fine), omega (arith, a.is_observer, small))

        -- an ack of this round that came in time ends it, or its observer's place is kept
        counts : (e : StandbyEvent) → Adds ours s clocks (since between) (at_standby g' r e)
            → Ended (step_within (window s) s q r e).answer
            ⊎ ((x : ℕ) → ack_from x ts limit (at_standby g' r e) ≡ true → Kept (step_within (window s) s q r e).rec.places x)
        unfolding ack_from on_clock
        counts begin add = inr (λ x e. absurd (not_both e refl))
        counts poll add = inr (λ x e. absurd (not_both e refl))
        counts (ack y ts' cnt status) add = of (ts' =? ts) refl
          where
            of : (b : Bool) → (ts' =? ts) ≡ b
                → Ended (step_within (window s) s q r (ack y ts' cnt status)).answer
                ⊎ ((x : ℕ) → ((y =? x) && (ts' =? ts) && (g' ≤? limit)) ≡ true
                → Kept (step_within (window s) s q r (ack y ts' cnt status)).rec.places x)
            of false e = inr (λ x is. absurd (not_both is (rw (e, and-false (y =? x)))))
            of true e =
                let same = eqb-true ts' ts e in
                let read = (is_reading s clocks.standby g' r add.on_clock_lem).0 in
                let add' =
                subst (λ (t : ℕ). Adds ours s clocks (since between) (at_standby g' r (ack y t cnt status))) same add in
                let fine = ack_fine y cnt status add' in
                let sized = (held (since between) run).standby_part.sized in
                let this : ts' ≡ q.ts = same ∙ sym its_ts in
                ⊎_elim (λ done. inl (rw this done)) (λ kept. inr (λ x is. rw (this, ← (named x is)) kept))
                (ack_counts (window s) s q r y cnt status fine.0 sized fine.1 (early read))
              where
                named : (x : ℕ) → ((y =? x) && (ts' =? ts) && (g' ≤? limit)) ≡ true → y ≡ x
                named x is =
                    eqb-true y x (both_hold (y =? x) (ts' =? ts) (both_hold ((y =? x) && (ts' =? ts)) (g' ≤? limit) is).0).0

        module _ (e : StandbyEvent) (add : Adds ours s clocks (since between) (at_standby g' r e)) (other : e ≡ begin → ⊥) where
          abbrev out : Outcome Standby
          out = step_within (window s) s q r e

          read : Reads s clocks.standby g' r
          unfolding on_clock
          read = (is_reading s clocks.standby g' r add.on_clock_lem).0

          inv : Held (since between)
          inv = held (since between) run

          -- it ends the round, or the round goes on with all that was kept and what this event adds
          at_standby_lem : Ended out.answer ⊎ Waiting (at_standby g' r e ∷ between)
          unfolding state_after perform now_of
          at_standby_lem =
              ⊎_elim inl
              (λ adds_it.
              ⊎_elim inl (λ still. inr (waits adds_it still))
              (goes_on (window s) s q r (way (window s) s q r e) other (early read) is_open))
              (counts e add)
            where
              waits : ((x : ℕ) → ack_from x ts limit (at_standby g' r e) ≡ true → Kept out.rec.places x)
                  → (has_open_round out.rec ≡ true) × (out.rec.ts ≡ q.ts) → Waiting (at_standby g' r e ∷ between)
              waits adds_it still =
                  let form =
                  (form_is_kept_lem.by_steps (window s) s q r e inv.standby_part.sized inv.standby_part.form).0 in
                  record {
                    places = out.rec.places;
                    short = (form_says s out.rec form).below_quorum;
                    acks = λ x. acks x (ack_from x ts limit (at_standby g' r e)) refl;
                    state = λ h. (still.0, still.1 ∙ its_ts, refl);
                  }
                where
                  acks : (x : ℕ) (b : Bool) → ack_from x ts limit (at_standby g' r e) ≡ b
                      → (b || some (ack_from x ts limit) between) ≡ true → Kept out.rec.places x
                  acks x true is h = adds_it x is
                  acks x false is h =
                      let before : Kept q.places x = rw its_places (wait.acks x h) in
                      ap (λ (place : Place). place.kept) (kept_stays_lem (window s) s q r e x before other still.0) ∙ before

      -- ---- each kind of event

      abbrev Next : Event → Type 0
      Next e = ((time e ≤ limit) × Ended (answer_to ours s (since between) e)) ⊎ Waiting (e ∷ between)

      later_than : (e : Event) → Adds ours s clocks (since between) e → now_of (since between) ≤ time e
      later_than e add = time_kept (since between) e add.in_time_lem

      in_round : (e : Event) → Adds ours s clocks (since between) e → not (is_begin e) ≡ true → not (is_restart e) ≡ true
          → time e ≤ limit → Next e
      unfolding time ack_from is_restart state_after perform answer_to
      in_round (at_recorder g' r e) add nb nr h =
          inr (as_before (at_recorder g' r e) (later_than (at_recorder g' r e) add) (λ x. refl) (λ _. refl))
      in_round (at_observer x g' r e) add nb nr h =
          inr (as_before (at_observer x g' r e) (later_than (at_observer x g' r e) add) (λ x. refl) (λ _. refl))
      in_round (restart g') add nb nr h = absurd (not_both nr refl)
      in_round (crash x g') add nb nr h = inr (as_before (crash x g') (later_than (crash x g') add) (λ x. refl) (λ _. refl))
      in_round (at_standby g' r e) add nb nr h =
          ⊎_elim (λ done. inl (h, done)) inr
          (at_standby_lem g' r (later_than (at_standby g' r e) add) h e add (no_begin_lem g' r e nb))

      next : (e : Event) → Adds ours s clocks (since between) e → not (is_begin e) ≡ true → not (is_restart e) ≡ true → Next e
      next e add nb nr = by (time e ≤? limit) refl
        where
          by : (b : Bool) → (time e ≤? limit) ≡ b → Next e
          by true h = in_round e add nb nr (leb-true (time e) limit h)
          by false h = inr (too_late e (later_than e add) (leb-false (time e) limit h))

    -- along the whole round
    goes : (between : List Event) → is_run ours s clocks (since between) ≡ true → no_begin between ≡ true
        → no_restart between ≡ true
        → EndedIn between ⊎ Waiting between
    goes [] run nb nr = inr at_first
    goes (e ∷ between) run nb nr =
        let a = adds ours s clocks (since between) e run in
        let n = both_hold (not (is_begin e)) (every (λ e. not (is_begin e)) between) nb in
        let k = both_hold (not (is_restart e)) (every (λ e. not (is_restart e)) between) nr in
        ⊎_elim (λ done. inl (e ∷ done.0, done.1, done.2, ap (λ (l : List Event). e ∷ l) done.3, done.4, done.5))
        (λ wait. ⊎_elim (λ done. inl ([], between, e, refl, done.0, done.1)) inr
        (next between a.before wait e a n.0 k.0))
        (goes between a.before n.1 k.1)

pub one_exchange_ends_lem : OneExchangeEnds
one_exchange_ends_lem s ok clocks between earlier g ts run nb nr query =
    ⊎_elim (λ done. done) (λ wait. absurd (quorum wait))
    (goes s ok clocks earlier g ts (part_of ours s clocks between (at_standby g ts begin ∷ earlier) run) between run nb nr)
  where
    quorum : Waiting s ok clocks earlier g ts between → ⊥
    quorum wait =
        let grown =
        quorums_grow_lem s (ackers ts (g + Δ s) between) (kept_marks wait.places)
        (λ x l m. get_or-map (λ place. place.kept) wait.places x unused
        ∙ wait.acks x (sixteen_marks (λ x. some (ack_from x ts (g + Δ s)) between) x m)) in
        not_both (grown.1 query) wait.short
