-- Claim 2: a recorder that had registered and whose requests have run out is detected.
use Prim.Native.Nat.{ℕ, ◌+◌, ◌*◌, ◌≤◌, ◌<◌}
use native.Mathlib.Omega.{arith}
use native.Mathlib.Nat.{le_refl}
use mathlib.Core.Path.{◌≡◌, refl, sym, ◌∙◌, subst}
use mathlib.Core.Bool.{Bool, true, false, ◌||◌, not}
use mathlib.Core.List.{List, [], ◌∷◌, ◌++◌, append_assoc}
use mathlib.Core.Logic.{◌⊎◌, inl, inr, ⊎_elim}
use lib.ListN.{get_or, get_or-map}
use borrow.Author.Tests.{leb-true, leb-false}
use Rattle.words.specs.Tests.{◌≤?◌}
use Rattle.words.specs.Lists.{every}
use Rattle.words.specs.Said.{Said}
use Rattle.words.proofs.Booleans.{both_hold}
use Rattle.settings.specs.declared.Settings.{Settings}
use Rattle.settings.specs.Settings.{O, rounding, window, refusal_of}
use Rattle.settings.proofs.Laws.{accepted, accepted_in_range}
use Rattle.quorums.proofs.Quorums.{quorums_meet_lem}
use Rattle.messages.specs.declared.Status.TheVariants.{Alive}
use Rattle.messages.specs.declared.Message.TheVariants.{LeaseRequest}
use Rattle.messages.specs.Answers.{Spoken, says_of}
use Rattle.recorder_rules.specs.Recorder.{registered}
use Rattle.observer_rules.specs.declared.ObserverEvent.TheVariants.{Request as request, Cut as cut, Check as check}
use Rattle.standby_rules.specs.declared.Place.{Place}
use Rattle.standby_rules.specs.Standby.{kept_marks, keeping, verdict, greatest, unused, no_places}
use Rattle.standby_rules.specs.declared.StandbyEvent.TheVariants.{Begin as begin, Ack as ack}
use Rattle.standby_rules.specs.Claims.{Kept}
use Rattle.standby_rules.proofs.Verdicts.{verdicts_hold_lem}
use Rattle.rack.specs.Clocks.{Clocks}
use Rattle.rack.specs.Runs.{ours, Event, Sent, Party, message_key, same_numbers, was_sent, posted, perform, on_clock, delivered, state_after, answer_to, is_run}
use Rattle.rack.specs.Runs.Event.{at_recorder, at_observer, at_standby, crash, restart}
use Rattle.rack.specs.Runs.Party.{recorder, standby, observer}
use Rattle.rack.specs.Claims.{Ended, is_request, sent_by, arrives_within, prompt, no_begin, RegisteredIn, DeadIsDetected}
use Rattle.rack.proofs.Clocks.{Reads, is_reading, lower}
use Rattle.rack.proofs.History.{All, none, more, all_behind, same_key, sent_has, posted_either}
use Rattle.rack.proofs.Invariant.{Marks}
use Rattle.rack.proofs.AtObserver.{Early}
use Rattle.rack.proofs.Along.{Adds, adds, part_of, nothing, Holds, stays, from_first, keeps_standby, registers}
use Rattle.rack.proofs.Rounds.{Closing, ended_by, begin_opens, same_round}

-- ---- lists

every_all : {A : Type 0} (test : A → Bool) (xs : List A) → every test xs ≡ true → All (λ x. test x ≡ true) xs
every_all test [] e = none
every_all test (x ∷ xs) e = let p = both_hold (test x) (every test xs) e in more p.0 (every_all test xs p.1)

all_and : {A : Type 0} {P Q : A → Type 0} {xs : List A} → All P xs → All Q xs → All (λ x. P x × Q x) xs
all_and none none = none
all_and (more p ps) (more q qs) = more (p, q) (all_and ps qs)

-- of two ends of one list the one is an end of the other
ends_meet : {A : Type 0} (xs ys us vs : List A) → xs ++ ys ≡ us ++ vs
    → ((ms : List A) × (ys ≡ ms ++ vs)) ⊎ ((ms : List A) × (vs ≡ ms ++ ys))
ends_meet [] ys us vs e = inl (us, e)
ends_meet (x ∷ xs) ys [] vs e = inr (x ∷ xs, sym e)
ends_meet (x ∷ xs) ys (u ∷ us) vs e = ends_meet xs ys us vs (tail e)
  where
    tail : x ∷ (xs ++ ys) ≡ u ∷ (us ++ vs) → xs ++ ys ≡ us ++ vs
    tail e = cc

-- ---- every request arrives by the time f + D

-- the history only grows
history_less : (s : Settings) (Q : Sent → Type 0) (past : List Event) (e : Event)
    → All Q (state_after ours s (e ∷ past)).history
    → All Q (state_after ours s past).history
unfolding state_after perform
history_less s Q past e = by e
  where
    posted_less : (by : Party) (g : ℕ) (answer : Said Spoken) (history : List Sent) → All Q (posted by g answer history)
        → All Q history
    posted_less by g answer history =
        posted_either (λ sent. All Q sent → All Q history) by g answer history (λ a. a) (λ m q. all_behind (_ ∷ []))

    by : (e : Event) → All Q (state_after ours s (e ∷ past)).history → All Q (state_after ours s past).history
    by (at_recorder g r e) = posted_less recorder g _ (state_after ours s past).history
    by (at_observer x g r e) = posted_less (observer x) g _ (state_after ours s past).history
    by (at_standby g r e) = posted_less standby g _ (state_after ours s past).history
    by (crash x g) = λ a. a
    by (restart g) = λ a. a

module _ (s : Settings) (clocks : Clocks) (f D : ℕ) (full : List Sent) (sent : sent_by f full ≡ true) where
  -- the history so far is part of the full one
  abbrev Less : List Sent → Type 1
  Less history = (Q : Sent → Type 0) → All Q full → All Q history

  arrival : (history : List Sent) → Less history → (g c : ℕ) → arrives_within D full c g ≡ true
      → was_sent history recorder (LeaseRequest c) ≡ true → g ≤ f + D
  unfolding sent_by is_request
  arrival history less g c quick came =
      let by_f = every_all (λ m. not (is_request m.what) || (m.time ≤? f)) full sent in
      let by_D =
      every_all (λ m. not (same_numbers (message_key m.what) (message_key (LeaseRequest c))) || (g ≤? m.time + D)) full
      quick in
      let m = sent_has _ recorder (LeaseRequest c) history (less _ (all_and by_f by_D)) came in
      let sent_by_lem = leb-true m.0 f m.1.0 in
      let within = leb-true g (m.0 + D) (rw (same_key (message_key (LeaseRequest c))) at m.1.1) in
      omega arith

  early_at : (history : List Sent) → Less history → (e : Event) → prompt D full e ≡ true → delivered history e ≡ true
      → Early (f + D) e
  unfolding prompt delivered
  early_at history less (at_recorder g r e) quick came = tt
  early_at history less (at_observer x g r (request c)) quick came = arrival history less g c quick came
  early_at history less (at_observer x g r (cut c k)) quick came = arrival history less g c quick came
  early_at history less (at_observer x g r (check ts)) quick came = tt
  early_at history less (at_standby g r e) quick came = tt
  early_at history less (crash x g) quick came = tt
  early_at history less (restart g) quick came = tt

  all_early : (events : List Event) → is_run ours s clocks events ≡ true → Less (state_after ours s events).history
      → every (prompt D full) events ≡ true → All (Early (f + D)) events
  all_early [] run less quick = none
  all_early (e ∷ past) run less quick =
      let a = adds ours s clocks past e run in
      let p = both_hold (prompt D full e) (every (prompt D full) past) quick in
      let before : Less (state_after ours s past).history = λ Q all. history_less s Q past e (less Q all) in
      more (early_at (state_after ours s past).history before e p.0 a.arrived) (all_early past a.before before p.1)

module _ (s : Settings) (ok : refusal_of s ≡ 0) (clocks : Clocks) (run : List Event) (f D : ℕ)
    (is_run_lem : is_run ours s clocks run ≡ true)
    (sent : sent_by f (state_after ours s run).history ≡ true)
    (quick : every (prompt D (state_after ours s run).history) run ≡ true) where
  abbrev L : ℕ
  L = f + D

  -- requests arrive by time f + D
  abbrev Held : Marks → List Event → Type 0
  Held marks events = Holds s ok window (le_refl (window s)) clocks L true marks events

  -- what has happened by some point of the run
  abbrev Part : List Event → Type 0
  Part past = (later : List Event) × (run ≡ later ++ past)

  older : (newer past : List Event) → Part (newer ++ past) → Part past
  older newer past part = (part.0 ++ newer, part.1 ∙ sym (append_assoc part.0 newer past))

  run_of : (past : List Event) → Part past → is_run ours s clocks past ≡ true
  run_of past part = part_of ours s clocks part.0 past (rw part.1 at is_run_lem)

  early_of : (past : List Event) → Part past → All (Early L) past
  early_of past part =
      all_behind part.0
      (subst (All (Early L)) part.1
      (all_early s clocks f D (state_after ours s run).history sent run is_run_lem (λ Q a. a) quick))

  -- what part of the run has come to, the rest keeps
  kept : (marks : Marks) (middle past : List Event) → Part (middle ++ past) → Held marks past → Held marks (middle ++ past)
  kept marks middle past part =
      stays s ok window (le_refl (window s)) clocks L true marks middle past (run_of (middle ++ past) part)
      (λ _. early_of (middle ++ past) part)

  to_end : (marks : Marks) (past : List Event) → Part past → Held marks past → Held marks run
  to_end marks past part inv = subst (Held marks) (sym part.1) (kept marks part.0 past ([], part.1) inv)

  held : (past : List Event) → Part past → Held nothing past
  held past part = from_first s ok window (le_refl (window s)) clocks L true past (run_of past part) (λ _. early_of past part)

  -- ---- the round that ended

  module _ (later between earlier : List Event) (ending : Event) (g ts : ℕ)
      (split : run ≡ later ++ (ending ∷ (between ++ (at_standby g ts begin ∷ earlier))))
      (nb : no_begin between ≡ true) (bound : f + D + O s + 2 * rounding s ≤ g)
      (ended : Ended (answer_to ours s (between ++ (at_standby g ts begin ∷ earlier)) ending)) where
    abbrev past : List Event
    past = between ++ (at_standby g ts begin ∷ earlier)

    closing : Closing (window s) s (state_after ours s past).standby ending (answer_to ours s past ending)
    closing = ended_by window s past ending ended

    abbrev places : List Place
    places = keeping closing.x closing.cnt closing.status (state_after ours s past).standby.places

    here : Part past
    here = older (ending ∷ []) past (later, split)

    at_begin : Adds ours s clocks earlier (at_standby g ts begin)
    at_begin = adds ours s clocks earlier (at_standby g ts begin) (part_of ours s clocks between _ (run_of past here))

    its_ts : (state_after ours s past).standby.ts ≡ ts
    its_ts =
        same_round s ok window (le_refl (window s)) clocks L true earlier g ts
        (begin_opens s ok window (le_refl (window s)) clocks L true nothing earlier
        (held earlier (older (at_standby g ts begin ∷ []) earlier (older between (at_standby g ts begin ∷ earlier) here))) g ts
        at_begin)
        between nb closing.was_open

    begun : Reads s clocks.standby g ts
    unfolding on_clock
    begun = (is_reading s clocks.standby g ts at_begin.on_clock_lem).0

    -- the marks with the round that ended
    abbrev with_round : Marks → Marks
    with_round marks =
        record { told = marks.told; reg = marks.reg; ts = (state_after ours s past).standby.ts; places = places }

    noted : (marks : Marks) → Held marks past → Held (with_round marks) (ending ∷ past)
    noted marks inv =
        let a = adds ours s clocks past ending (run_of (ending ∷ past) (later, split)) in
        let a' = subst (λ (v : Event). Adds ours s clocks past v) closing.is_ack a in
        subst (λ (v : Event). Held (with_round marks) (v ∷ past)) (sym closing.is_ack)
        (keeps_standby s ok window (le_refl (window s)) clocks L true marks past inv closing.g closing.r
        (ack closing.x (state_after ours s past).standby.ts closing.cnt closing.status) a' (with_round marks)
        (record { dead = inl; registered = refl; round = inr (closing.x, closing.cnt, closing.status, refl, refl, refl) }))

    -- each kept ack was said after the last request had long arrived
    long_after : (a : ℕ) → Reads s clocks.standby a (state_after ours s past).standby.ts → L + O s + rounding s ≤ a
    long_after a read = by (a ≤? g) refl (rw its_ts at read)
      where
        by : (b : Bool) → (a ≤? g) ≡ b → Reads s clocks.standby a ts → L + O s + rounding s ≤ a
        by true e read =
            let gain = lower read begun (leb-true a g e) in
            omega (arith, bound, (accepted s ok).b, (accepted_in_range s ok).P_least, leb-true a g e)
        by false e read = omega (arith, bound, leb-false a g e)

    -- at the end of the run the recorder has registered, and the round is noted
    says_dead_lem : (reg : Marks) → reg.reg ≡ true → Held (with_round reg) run
        → (m : ℕ) × (answer_to ours s past ending ≡ says_of "dead" m)
    says_dead_lem reg is inv =
        let r = inv.registered_early is refl in
        let y = quorums_meet_lem s ok r.0 (kept_marks places) r.1 closing.query in
        let kept = sym (get_or-map (λ place. place.kept) places y.0 unused) ∙ y.3 in
        let a = inv.noted y.0 kept in
        let heard = long_after a.begun_at a.begun in
        let some = a.low 1 L (r.2 y.0 y.2) (omega (arith, heard, a.after, (accepted_in_range s ok).O_least)) in
        let top = verdicts_hold_lem.is_greatest places in
        let least : 0 < greatest places = omega (arith, some, top.none_higher y.0 kept) in
        let one = top.one_as_high least in
        let b = inv.noted one.0 one.1 in
        let late = long_after b.begun_at b.begun in
        verdict_of closing.says_so least one (λ alive. omega (arith, late, b.after, b.alive refl alive)) ended
      where
        verdict_of : answer_to ours s past ending ≡ verdict places → 0 < greatest places
            → (one : (x : ℕ) × Kept places x × ((get_or places x unused).counter ≡ greatest places))
            → ((get_or places one.0 unused).status ≡ Alive → ⊥)
            → Ended (answer_to ours s past ending) → (m : ℕ) × (answer_to ours s past ending ≡ says_of "dead" m)
        verdict_of same least one not-alive (inl e) =
            absurd (omega (arith, least, verdicts_hold_lem.unknown places (sym same ∙ e)))
        verdict_of same least one not-alive (inr m) =
            ⊎_elim (λ dead. (m.0, dead))
            (λ alive. let v = verdicts_hold_lem.alive places m.0 (sym same ∙ alive) in absurd
            (not-alive (v.2 one.0 one.1 (one.2 ∙ sym v.1))))
            m.1

    abbrev registered_only : Marks
    registered_only = record { told = false; reg = true; ts = 0; places = no_places }

    abbrev Registered : List Event → Type 0
    Registered past₀ = registered s (state_after ours s past₀).recorder ≡ true

    -- the recorder registered after the round had ended, or before
    after : (ms : List Event) → Part (ms ++ (ending ∷ past)) → Registered (ms ++ (ending ∷ past))
        → Held (with_round registered_only) run
    after ms part is =
        let inv = kept (with_round nothing) ms (ending ∷ past) part (noted nothing (held past here)) in
        to_end (with_round registered_only) (ms ++ (ending ∷ past)) part
        (registers s ok window (le_refl (window s)) clocks L true (with_round nothing) (ms ++ (ending ∷ past)) inv is)

    before : (ms past₀ : List Event) → Part past₀ → past ≡ ms ++ past₀ → Registered past₀
        → Held (with_round registered_only) run
    before ms past₀ part same is =
        let inv = registers s ok window (le_refl (window s)) clocks L true nothing past₀ (held past₀ part) is in
        let inv' = kept registered_only ms past₀ (subst Part same here) inv in
        to_end (with_round registered_only) (ending ∷ past) (later, split)
        (noted registered_only (subst (Held registered_only) (sym same) inv'))

    pub detected : RegisteredIn ours s run → (m : ℕ) × (answer_to ours s past ending ≡ says_of "dead" m)
    detected r =
        says_dead_lem registered_only refl
        (⊎_elim (λ m. after m.0 (subst Part m.1 part) (subst Registered m.1 r.3)) (λ m. earlier_or m.0 m.1)
        (ends_meet r.0 r.1 later (ending ∷ past) (sym r.2 ∙ split)))
      where
        part : Part r.1
        part = (r.0, r.2)

        earlier_or : (ms : List Event) → ending ∷ past ≡ ms ++ r.1 → Held (with_round registered_only) run
        earlier_or [] e = after [] (later, split) (subst Registered (sym e) r.3)
        earlier_or (m ∷ ms) e = before ms r.1 part (tail e) r.3
          where
            tail : ending ∷ past ≡ m ∷ (ms ++ r.1) → past ≡ ms ++ r.1
            tail e = cc

pub dead_is_detected_lem : DeadIsDetected
dead_is_detected_lem s ok clocks run f D is_run_lem reg sent quick later between earlier ending g ts split nb bound ended =
    detected s ok clocks run f D is_run_lem sent quick later between earlier ending g ts split nb bound ended reg
