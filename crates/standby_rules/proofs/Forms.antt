-- The form: what it says, that every step keeps it, and that it leaves a closed round nothing but its last reading.
use Prim.Native.Nat.{ℕ, ◌≤◌, ◌<◌}
use native.Mathlib.Omega.{arith}
use native.Mathlib.Nat.{le_refl, le_trans}
use mathlib.Core.Path.{◌≡◌, refl, sym, ◌∙◌}
use mathlib.Core.Bool.{Bool, true, false, ◌&&◌, ◌||◌, not}
use mathlib.Core.List.{List}
use lib.ListN.{drop, length-set}
use lib.Seq.{drop-set-lt}
use borrow.Author.Tests.{leb-true, le-leb, eqb-true, not-true}
use Rattle.words.specs.Tests.{◌≤?◌, ◌=?◌}
use Rattle.words.specs.Lists.{every}
use Rattle.words.specs.Said.{first}
use Rattle.words.specs.Said.Said.{gives}
use Rattle.words.proofs.Booleans.{both_hold, not_both}
use Rattle.words.proofs.Conditions.{every_anywhere}
use Rattle.words.proofs.Walks.{every_set, every_drop, every_same}
use Rattle.settings.specs.declared.Settings.{Settings}
use Rattle.settings.specs.Settings.{n}
use Rattle.quorums.specs.Quorums.{closes}
use Rattle.quorums.proofs.Quorums.{nobody_closes}
use Rattle.messages.specs.declared.Status.{Status}
use Rattle.messages.specs.declared.Status.TheVariants.{Alive, Dead}
use Rattle.messages.specs.Messages.{top_counter, top_reading}
use Rattle.messages.specs.Answers.{Spoken, refuses}
use Rattle.messages.specs.Outcomes.{Outcome}
use Rattle.messages.proofs.Outcomes.{either_way, never_refused_with, refused_is_not_given}
use Rattle.standby_rules.specs.declared.Place.{Place}
use Rattle.standby_rules.specs.declared.Standby.{Standby}
use Rattle.standby_rules.specs.Standby.{has_form, form, has_open_round, last_reading_of, is_dead, is_unused, good_place, unused, no_places, kept_marks, closed, opened, at_reading, keeping, verdict, begin_event, refusals_of, event_within, step_within}
use Rattle.standby_rules.specs.declared.StandbyEvent.{StandbyEvent as Event}
use Rattle.standby_rules.specs.declared.StandbyEvent.TheVariants.{Begin as begin, Ack as ack, Poll as poll}
use Rattle.standby_rules.specs.Claims.{Sized, FormIsKept, ClosedIsZero}
use Rattle.standby_rules.proofs.Verdicts.{by_verdict}
use Rattle.standby_rules.proofs.Refusals.{Admitted, begin_admitted, poll_admitted, ack_counted, each_ack, each_poll}

-- the six conditions of the form
pub record Formed (s : Settings) (q : Standby) : Type 0 where
  pub zero_if_closed : (has_open_round q || ((q.ts =? 0) && every is_unused q.places)) ≡ true
  pub ts_if_open : (not (has_open_round q) || (q.ts ≤? last_reading_of q)) ≡ true
  pub reading : last_reading_of q ≤ top_reading
  pub below_quorum : closes s (kept_marks q.places) ≡ false
  pub good : every good_place q.places ≡ true
  pub beyond : every is_unused (drop (n s) q.places) ≡ true

pub form_says : (s : Settings) (q : Standby) → has_form s q ≡ true → Formed s q
unfolding has_form form
form_says s q e =
    let condition = every_anywhere (λ condition. condition) true refl (form s q) e in
    record {
      zero_if_closed = condition 0;
      ts_if_open = condition 1;
      reading = leb-true (last_reading_of q) top_reading (condition 2);
      below_quorum = not-true _ (condition 3);
      good = condition 4;
      beyond = condition 5;
    }

pub form_holds : (s : Settings) (q : Standby) → Formed s q → has_form s q ≡ true
unfolding has_form form
form_holds s q f =
    rw (f.zero_if_closed, f.ts_if_open, le-leb (last_reading_of q) top_reading f.reading, f.below_quorum, f.good, f.beyond)

-- a closed round, as a run starts with
pub closed_formed : (s : Settings) (r : ℕ) → r ≤ top_reading → has_form s (closed r) ≡ true
unfolding is_unused good_place is_dead
closed_formed s r small =
    form_holds s (closed r) (record {
      zero_if_closed = refl;
      ts_if_open = refl;
      reading = small;
      below_quorum = nobody_closes s (kept_marks no_places) refl;
      good = refl;
      beyond = every_drop is_unused (n s) no_places refl;
    })

-- an open round, by its places
open_formed : (s : Settings) (ts r : ℕ) (places : List Place) → ts ≤ r → r ≤ top_reading
    → closes s (kept_marks places) ≡ false → every good_place places ≡ true → every is_unused (drop (n s) places) ≡ true
    → has_form s (record { open_flag = true; ts = ts; last_reading = r; places = places }) ≡ true
open_formed s ts r places past small few good beyond =
    form_holds s _ (record {
      zero_if_closed = refl;
      ts_if_open = le-leb ts r past;
      reading = small;
      below_quorum = few;
      good = good;
      beyond = beyond;
    })

begun_formed : (s : Settings) (r : ℕ) → r ≤ top_reading
    → has_form s (opened r) ≡ true
unfolding is_unused good_place is_dead
begun_formed s r small =
    open_formed s r r no_places (le_refl r) small (nobody_closes s (kept_marks no_places) refl) refl
    (every_drop is_unused (n s) no_places refl)

-- an open round goes on with these places
on_formed : (s : Settings) (q : Standby) (r : ℕ) (places : List Place) → Admitted s q r → has_open_round q ≡ true
    → closes s (kept_marks places) ≡ false → every good_place places ≡ true → every is_unused (drop (n s) places) ≡ true
    → has_form s (record { open_flag = has_open_round q; ts = q.ts; last_reading = r; places = places }) ≡ true
on_formed s q r places a is_open few good beyond =
    let f = form_says s q a.formed in
    let begun = leb-true q.ts (last_reading_of q) (rw is_open at f.ts_if_open) in
    rw is_open (open_formed s q.ts r places (le_trans begun a.no_fall) a.in_range_lem few good beyond)

same_reading_formed : (s : Settings) (q : Standby) (r : ℕ) → Admitted s q r → has_open_round q ≡ true → has_form s (at_reading r q) ≡ true
same_reading_formed s q r a is_open =
    let f = form_says s q a.formed in
    on_formed s q r q.places a is_open f.below_quorum f.good f.beyond

-- a place that is kept is good, and stands before n
keeping_good : (x cnt : ℕ) (status : Status) (places : List Place) → cnt ≤ top_counter → every good_place places ≡ true
    → every good_place (keeping x cnt status places) ≡ true
unfolding good_place is_unused
keeping_good x cnt status places small good =
    every_set good_place (record { kept = true; counter = cnt; status = status }) (le-leb cnt top_counter small) places x good

keeping_beyond : (k x cnt : ℕ) (status : Status) (places : List Place) → x < k → every is_unused (drop k places) ≡ true
    → every is_unused (drop k (keeping x cnt status places)) ≡ true
keeping_beyond k x cnt status places h beyond =
    rw (drop-set-lt k places x (record { kept = true; counter = cnt; status = status }) h) beyond

-- ---- Every step keeps the form

abbrev Keeps : Settings → Outcome Standby → Type 0
Keeps s o = (has_form s o.rec ≡ true) × Sized o.rec

module _ (w : ℕ) (s : Settings) (q : Standby) (r : ℕ) (sized : Sized q) (formed : has_form s q ≡ true) where
  kept_by : (event : Event) → first (refusals_of s q r event) ≡ 0 → Keeps s (event_within w s q r event)
  unfolding begin_event
  kept_by begin e = (begun_formed s r (begin_admitted s q r e).in_range_lem, refl)
  kept_by poll e =
      let a = poll_admitted s q r e in
      each_poll w q r (Keeps s)
      (λ late. (closed_formed s r a.0.in_range_lem, refl))
      (λ early. (same_reading_formed s q r a.0 a.1, sized))
  kept_by (ack x ts cnt status) e =
      let a = ack_counted s q r x ts cnt e in
      let f = form_says s q formed in
      each_ack w s q r x cnt status (Keeps s) (record {
        late = λ _. (closed_formed s r a.admitted.in_range_lem, refl);
        second = λ _ _. (same_reading_formed s q r a.admitted a.open_round, sized);
        closing = λ _ _ _. (closed_formed s r a.admitted.in_range_lem, refl);
        waiting = λ _ _ few. (
          on_formed s q r (keeping x cnt status q.places) a.admitted a.open_round few
              (keeping_good x cnt status q.places a.counter f.good)
              (keeping_beyond (n s) x cnt status q.places a.observer f.beyond),
          length-set q.places x _ ∙ sized,
        );
      })

  by_steps : (event : Event) → Keeps s (step_within w s q r event)
  unfolding step_within
  by_steps event = either_way (refusals_of s q r event) q _ (Keeps s) (λ refused. (formed, sized)) (kept_by event)

-- ---- Refusal 3 is given to no record of the form

abbrev NotThree : Outcome Standby → Type 0
NotThree o = o.answer ≡ refuses 3 → ⊥

spoken : (a : Spoken) → gives a ≡ refuses 3 → ⊥
spoken a e = refused_is_not_given (sym e)

verdict_spoken : (places : List Place) → verdict places ≡ refuses 3 → ⊥
verdict_spoken places =
    by_verdict (λ said. said ≡ refuses 3 → ⊥) places (λ zero. spoken _) (λ positive dead. spoken _) (λ positive alive. spoken _)

no_three : (w : ℕ) (s : Settings) (q : Standby) (r : ℕ) (event : Event) → has_form s q ≡ true
    → NotThree (step_within w s q r event)
unfolding step_within begin_event
no_three w s q r event formed =
    never_refused_with (refusals_of s q r event) q _ 3 (λ z. omega arith) (lines event) (done event)
  where
    lines : (event : Event) → every (λ line. not (line.no =? 3) || not line.applies) (refusals_of s q r event) ≡ true
    lines begin = rw formed
    lines (ack x ts cnt status) = rw formed
    lines poll = rw formed

    done : (event : Event) → NotThree (event_within w s q r event)
    done begin = spoken _
    done (ack x ts cnt status) =
        each_ack w s q r x cnt status NotThree (record {
          late = λ _. spoken _;
          second = λ _ _. spoken _;
          closing = λ _ _ _. verdict_spoken (keeping x cnt status q.places);
          waiting = λ _ _ _. spoken _;
        })
    done poll = each_poll w q r NotThree (λ late. spoken _) (λ early. spoken _)

pub form_is_kept_lem : FormIsKept
unfolding has_form
form_is_kept_lem = record {
  at_first = λ s. (closed_formed s 0 (omega arith), refl);
  by_steps = λ w s q r event sized formed. by_steps w s q r sized formed event;
  no_three = no_three;
}

-- ---- A closed round

alive : (status : Status) → is_dead status ≡ false → status ≡ Alive
unfolding is_dead
alive Alive e = refl
alive Dead e = absurd (not_both refl e)

is_unused_lem : (place : Place) → is_unused place ≡ true → place ≡ unused
unfolding is_unused
is_unused_lem place e =
    let parts = both_hold (not place.kept && (place.counter =? 0)) (not (is_dead place.status)) e in
    let front = both_hold (not place.kept) (place.counter =? 0) parts.0 in
    same (not-true place.kept front.0) (eqb-true place.counter 0 front.1)
    (alive place.status (not-true (is_dead place.status) parts.1))
  where
    same : {k k' : Bool} {m m' : ℕ} {a a' : Status} → k ≡ k' → m ≡ m' → a ≡ a'
        → ◌≡◌ {A = Place} (record { kept = k; counter = m; status = a }) (record { kept = k'; counter = m'; status = a' })
    same p q r = rw (p, q, r)

pub closed_is_zero_lem : ClosedIsZero
closed_is_zero_lem s q sized formed shut =
    let zero = both_hold (q.ts =? 0) (every is_unused q.places) (rw shut at (form_says s q formed).zero_if_closed) in
    let none = every_same is_unused unused is_unused_lem q.places zero.1 in
    same shut (eqb-true q.ts 0 zero.0) (none ∙ rw sized)
  where
    same : {k k' : Bool} {m m' : ℕ} {r : ℕ} {p p' : List Place} → k ≡ k' → m ≡ m' → p ≡ p'
        → ◌≡◌ {A = Standby} (record { open_flag = k; ts = m; last_reading = r; places = p })
        (record { open_flag = k'; ts = m'; last_reading = r; places = p' })
    same a b c = rw (a, b, c)
