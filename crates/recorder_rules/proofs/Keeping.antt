-- Every step leaves a record of the form. Assumes nothing.
use Prim.Native.Nat.{ℕ, ◌+◌, ◌-◌, ◌≤◌, ◌<◌, zero-le}
use native.Mathlib.Nat.{le_refl, le_trans, le_of_eq, not-suc-le-zero}
use native.Mathlib.Omega.{arith}
use mathlib.Core.Path.{◌≡◌, refl, ap, ◌∙◌}
use mathlib.Core.Logic.{◌⊎◌, inl, inr}
use mathlib.Core.Bool.{Bool, true, false, ◌||◌, not}
use mathlib.Core.List.{[], ◌∷◌, ◌++◌}
use lib.ListN.{length, get_or, set, replicate, length-append, length-set, get_or-append}
use lib.Seq.{take_at, get_or-append_seam, get_or-set_other}
use borrow.Author.Tests.{leb-true, ltb-true, ltb-false, eqb-true}
use Rattle.words.specs.Tests.{◌<?◌, ◌≤?◌, ◌=?◌}
use Rattle.words.specs.Lists.{every}
use Rattle.words.specs.Said.{number}
use Rattle.words.proofs.Booleans.{not_both, whether}
use Rattle.words.proofs.Conditions.{second_holds}
use Rattle.settings.specs.declared.Settings.{Settings}
use Rattle.settings.specs.Settings.{n, η, P, refusal_of}
use Rattle.settings.proofs.Laws.{accepted_in_range}
use Rattle.messages.specs.Outcomes.{Outcome}
use Rattle.words.proofs.Said.{never_given}
use Rattle.words.proofs.Walks.{after_store}
use Rattle.recorder_rules.specs.declared.Recorder.{Recorder}
use Rattle.recorder_rules.specs.Recorder.{last_send_of, last_reading_of, open_lease_count, leases, is_zero, spaced, has_form, kept, lacking, advanced, halted, due, requesting, higher, granting, tick_event, grant_event, drive_event, step_of, fresh, refusals_of, event_of}
use Rattle.recorder_rules.specs.declared.RecorderEvent.{RecorderEvent as Event}
use Rattle.recorder_rules.specs.declared.RecorderEvent.TheVariants.{Tick as tick, Grant as grant, Drive as drive}
use Rattle.recorder_rules.specs.Claims.{Sized, FormIsKept, PlacesSuffice}
use Rattle.recorder_rules.proofs.Formed.{Formed, formed, has_form_lem, not_zero, positive}
use Rattle.recorder_rules.proofs.Spacing.{spaced_more, kept_length, kept_young, kept_spaced, kept_last}
use Rattle.recorder_rules.proofs.Room.{leases_length, leases_last, room_advanced}
use Rattle.recorder_rules.proofs.Placing.{zeros, placed_unused, placed_back, placed_length}
use Rattle.recorder_rules.proofs.Grants.{higher_below}
use Rattle.recorder_rules.proofs.Lacking.{none_lacks, newest_kept}
use Rattle.recorder_rules.proofs.Ways.{Passes, Allowed, allowed, allowed_grant, each_way, each_answer}

module _ (s : Settings) (rec : Recorder) (r : ℕ) where
  reading_advanced : last_reading_of (advanced s rec r) ≡ r
  unfolding advanced
  reading_advanced = refl

  counter_advanced : (advanced s rec r).counter ≡ rec.counter
  unfolding advanced
  counter_advanced = refl

module _ (s : Settings) (rec : Recorder) (r : ℕ) (ok : Allowed s rec r) (sized : Sized rec) where
  f : Formed s rec
  f = ok.form

  -- a stop
  pub halted_formed : lacking s rec r ≡ true → Formed s (halted rec r)
  halted_formed lacks =
      record {
        counter_top = f.counter_top;
        flag = le_refl 1;
        before_first = λ z. absurd (not_both lacks (none_lacks s rec r (f.before_first z).no_lease));
        sends_unused_lem = f.sends_unused_lem;
        grants_unused_lem = f.grants_unused_lem;
        grants_counter = f.grants_counter;
        some_lease = f.some_lease;
        leases_places = f.leases_places;
        leases_counter = f.leases_counter;
        apart = f.apart;
        newest = f.newest;
        counter_send = f.counter_send;
        send_reading = le_trans f.send_reading ok.reading_last;
        reading_top = ok.reading_top;
        youth = λ z. let no : ⊥ = omega arith in absurd no;
      }

  -- ended leases are gone
  module _ (running : rec.stopped ≡ 0) (goes : lacking s rec r ≡ false) where
    pub advanced_sized : Sized (advanced s rec r)
    unfolding advanced
    advanced_sized =
        let fewer = kept_length s r (leases rec) in
        let counted = leases_length s rec sized.sends f in
        record { sends = placed_length (kept s r (leases rec)) (omega (arith, f.leases_places)); grants = sized.grants }

    pub advanced_formed : Formed s (advanced s rec r)
    unfolding advanced
    advanced_formed =
        let ks = kept s r (leases rec) in
        let h = (accepted_in_range s ok.settings).η_least in
        let fewer = kept_length s r (leases rec) in
        let counted = leases_length s rec sized.sends f in
        let newest_stays = newest_kept s rec r ok.settings f sized.sends goes in
        record {
          counter_top = f.counter_top;
          flag = f.flag;
          before_first = λ z.
              let all = f.before_first z in
              let none : length ks ≡ 0 = omega arith in
              record {
                stopped = all.stopped;
                counter = z;
                last_send = all.last_send;
                no_lease = none;
                sends = λ i. placed_unused ks i (omega arith);
                grants = all.grants;
              };
          sends_unused_lem = placed_unused ks;
          grants_unused_lem = f.grants_unused_lem;
          grants_counter = f.grants_counter;
          some_lease = λ some. newest_stays (f.some_lease some);
          leases_places = omega (arith, f.leases_places);
          leases_counter = omega (arith, f.leases_counter);
          apart = rw (placed_back ks) (kept_spaced s r h (leases rec) f.apart);
          newest = λ some.
              let some_lease = f.some_lease some in
              let some_kept = newest_stays some_lease in
              get_or-append ks (replicate (64 - length ks) 0) 0 (length ks - 1) (omega arith)
              ∙ kept_last s r h (leases rec) f.apart some_kept
              ∙ leases_last s rec sized.sends f some_lease;
          counter_send = f.counter_send;
          send_reading = le_trans f.send_reading ok.reading_last;
          reading_top = ok.reading_top;
          youth = λ _. rw (placed_back ks) (kept_young s r (leases rec));
        }

-- one more lease, where one is due and there is room
module _ (s : Settings) (rec : Recorder) (r : ℕ) (accepted : refusal_of s ≡ 0) (f : Formed s rec) (sized : Sized rec)
    (now : last_reading_of rec ≡ r) (is_due : due s rec r ≡ true) (place : open_lease_count rec < 64) where
  far_enough : 1 ≤ rec.counter → η s ≤ r - last_send_of rec
  far_enough some =
      leb-true _ _ (second_holds (is_zero rec.counter) (η s ≤? r - last_send_of rec) is_due (not_zero rec.counter some))

  -- the counter rises no faster than the reading
  counter_reading : rec.counter ≤ r
  counter_reading = by (is_zero rec.counter) refl
    where
      by : (none : Bool) → is_zero rec.counter ≡ none → rec.counter ≤ r
      by true e = omega (arith, eqb-true rec.counter 0 e)
      by false e =
          let range = accepted_in_range s accepted in
          omega (arith, far_enough (positive rec.counter e), f.counter_send)

  one_more : length (leases rec ++ (r ∷ [])) ≡ open_lease_count rec + 1
  one_more = length-append (leases rec) (r ∷ []) ∙ ap (λ (k : ℕ). k + 1) (leases_length s rec sized.sends f)

  pub leases_requesting : leases (requesting rec r) ≡ leases rec ++ (r ∷ [])
  leases_requesting =
      take_at (leases rec ++ (r ∷ [])) (replicate (64 - length (leases rec ++ (r ∷ []))) 0) (open_lease_count rec + 1) one_more

  pub requesting_sized : Sized (requesting rec r)
  requesting_sized = record { sends = placed_length (leases rec ++ (r ∷ [])) (omega (arith, one_more)); grants = sized.grants }

  young_all : rec.stopped ≡ 0 → (i : ℕ) → i < length (leases rec ++ (r ∷ []))
      → last_reading_of rec - get_or (leases rec ++ (r ∷ [])) i 0 < P s
  young_all running i h = by (i <? length (leases rec)) refl
    where
      by : (old : Bool) → (i <? length (leases rec)) ≡ old → last_reading_of rec - get_or (leases rec ++ (r ∷ [])) i 0 < P s
      by true e =
          let within = ltb-true _ _ e in
          rw (get_or-append (leases rec) (r ∷ []) 0 i within) (f.youth running i within)
      by false e =
          let range = accepted_in_range s accepted in
          let last : i ≡ length (leases rec) =
          omega (arith, ltb-false i (length (leases rec)) e, length-append (leases rec) (r ∷ [])) in
          rw (last, get_or-append_seam (leases rec) r [] 0) (omega arith)

  pub requesting_formed : Formed s (requesting rec r)
  requesting_formed =
      let xs = leases rec ++ (r ∷ []) in
      let counted = leases_length s rec sized.sends f in
      record {
        counter_top = omega (arith, counter_reading, f.reading_top);
        flag = f.flag;
        before_first = λ z. let no : ⊥ = omega arith in absurd no;
        sends_unused_lem = λ i h. placed_unused xs i (omega (arith, one_more));
        grants_unused_lem = f.grants_unused_lem;
        grants_counter = λ x. omega (arith, f.grants_counter x);
        some_lease = λ _. omega arith;
        leases_places = omega arith;
        leases_counter = omega (arith, f.leases_counter);
        apart = rw leases_requesting
            (spaced_more (η s) (leases rec) r f.apart
            (λ some.
            let first : 1 ≤ open_lease_count rec = omega arith in
            rw (leases_last s rec sized.sends f first) (far_enough (omega (arith, f.leases_counter)))));
        newest = λ _.
            let there : open_lease_count rec + 1 - 1 ≡ length (leases rec) = omega arith in
            rw there
            (get_or-append xs (replicate (64 - length xs) 0) 0 (length (leases rec)) (omega (arith, one_more))
            ∙ get_or-append_seam (leases rec) r [] 0);
        counter_send = omega (arith, counter_reading);
        send_reading = omega arith;
        reading_top = f.reading_top;
        youth = λ running. rw leases_requesting (young_all running);
      }

-- a grant that was asked for
module _ (s : Settings) (rec : Recorder) (f : Formed s rec) (x j : ℕ) (is_observer : x < n s) (some : 1 ≤ j)
    (asked : j ≤ rec.counter) where
  pub granting_formed : Formed s (granting rec x j)
  granting_formed =
      record {
        counter_top = f.counter_top;
        flag = f.flag;
        before_first = λ z. let no : ⊥ = omega arith in absurd no;
        sends_unused_lem = f.sends_unused_lem;
        grants_unused_lem = λ y h. get_or-set_other rec.grants x y v 0 (λ e. omega arith) ∙ f.grants_unused_lem y h;
        grants_counter = λ y. by y (after_store 0 rec.grants x v y);
        some_lease = f.some_lease;
        leases_places = f.leases_places;
        leases_counter = f.leases_counter;
        apart = f.apart;
        newest = f.newest;
        counter_send = f.counter_send;
        send_reading = f.send_reading;
        reading_top = f.reading_top;
        youth = f.youth;
      }
    where
      v : ℕ
      v = higher (get_or rec.grants x 0) j

      by : (y : ℕ)
          → (get_or (set rec.grants x v) y 0 ≡ get_or rec.grants y 0) ⊎ ((y ≡ x) × (get_or (set rec.grants x v) y 0 ≡ v))
          → get_or (set rec.grants x v) y 0 ≤ rec.counter
      by y (inl e) = rw e (f.grants_counter y)
      by y (inr w) = rw w.1 (higher_below (get_or rec.grants x 0) j (f.grants_counter x) asked)

-- a record of the form, with all its places
pub record Good (s : Settings) (rec : Recorder) : Type 0 where
  pub form : Formed s rec
  pub size : Sized rec

-- what the events leave, once the ended leases are gone
module _ (s : Settings) (rec : Recorder) (r : ℕ) (ok : Allowed s rec r) (sized : Sized rec) (running : rec.stopped ≡ 0)
    (goes : lacking s rec r ≡ false) where
  cleared : Good s (advanced s rec r)
  cleared = record { form = advanced_formed s rec r ok sized running goes; size = advanced_sized s rec r ok sized running goes }

  pub event_good : (event : Event) → Passes s rec r event → Good s (event_of s r event (advanced s rec r)).rec
  unfolding tick_event grant_event drive_event
  event_good tick passes =
      whether (λ (outcome : Outcome Recorder). Good s outcome.rec) (due s (advanced s rec r) r)
      (λ is_due.
      let place = room_advanced s rec r ok.settings (has_form_lem s rec ok.form) sized.sends is_due in
      let now = reading_advanced s rec r in
      record {
        form = requesting_formed s (advanced s rec r) r ok.settings cleared.form cleared.size now is_due place;
        size = requesting_sized s (advanced s rec r) r ok.settings cleared.form cleared.size now is_due place;
      })
      (λ _. cleared)
  event_good (grant x j) passes =
      let g = allowed_grant s rec r x j passes in
      record {
        form = granting_formed s (advanced s rec r) cleared.form x j g.0 g.1 (rw (counter_advanced s rec r) g.2);
        size =
            record { sends = cleared.size.sends; grants = length-set (advanced s rec r).grants x _ ∙ cleared.size.grants };
      }
  event_good drive passes = cleared

pub step_good : (s : Settings) (rec : Recorder) (r : ℕ) (event : Event) → Good s rec → Good s (step_of s rec r event).rec
step_good s rec r event good =
    each_way s rec r event (λ outcome. Good s outcome.rec)
    (record {
      refused = λ _. good;
      stopped = λ _ _. good;
      stopping = λ passes _ lacks.
          record {
            form = halted_formed s rec r (allowed s rec r event passes) good.size lacks;
            size = record { sends = good.size.sends; grants = good.size.grants };
          };
      going_on =
          λ passes running goes. event_good s rec r (allowed s rec r event passes) good.size running goes event passes;
    })

-- a fresh record
fresh_formed : (s : Settings) → Formed s fresh
unfolding spaced
fresh_formed s =
    record {
      counter_top = zero-le;
      flag = zero-le;
      before_first = λ _.
          record { stopped = refl; counter = refl; last_send = refl; no_lease = refl; sends = zeros 64; grants = zeros 16 };
      sends_unused_lem = λ i _. zeros 64 i;
      grants_unused_lem = λ x _. zeros 16 x;
      grants_counter = λ x. le_of_eq (zeros 16 x);
      some_lease = λ h. h;
      leases_places = zero-le;
      leases_counter = zero-le;
      apart = refl;
      newest = λ h. absurd (not-suc-le-zero h);
      counter_send = zero-le;
      send_reading = zero-le;
      reading_top = zero-le;
      youth = λ _ i h. absurd (not-suc-le-zero h);
    }

-- no line of refusal 3 applies to a record of the form
no_line_three : (s : Settings) (rec : Recorder) (r : ℕ) (event : Event) → has_form s rec ≡ true
    → every (λ line. not (line.no =? 3) || not line.applies) (refusals_of s rec r event) ≡ true
no_line_three s rec r tick e = rw e
no_line_three s rec r (grant x j) e = rw e
no_line_three s rec r drive e = rw e

-- so a record of the form is never refused by 3
never_three : (s : Settings) (rec : Recorder) (r : ℕ) (event : Event) → has_form s rec ≡ true
    → number (step_of s rec r event).answer ≡ 3 → ⊥
unfolding number
never_three s rec r event e =
    each_way s rec r event (λ outcome. number outcome.answer ≡ 3 → ⊥)
    (record {
      refused = λ _. never_given 3 (λ z. omega arith) (refusals_of s rec r event) (no_line_three s rec r event e);
      stopped = λ _ _ z. omega arith;
      stopping = λ _ _ _ z. omega arith;
      going_on = λ _ _ _ z.
          let none = each_answer (λ answer. number answer ≡ 0) refl refl (λ _. refl) s r event (advanced s rec r) in
          omega arith;
    })

pub form_is_kept_lem : FormIsKept
unfolding number
form_is_kept_lem =
    record {
      at_first = λ s. (has_form_lem s fresh (fresh_formed s), record { sends = refl; grants = refl });
      by_steps = λ s rec r event sized e.
          let good = step_good s rec r event (record { form = formed s rec e; size = sized }) in
          (has_form_lem s _ good.form, good.size);
      no_three = λ s rec r event e said. never_three s rec r event e (ap number said);
    }

-- the counter does not fall
counter_rises : (s : Settings) (rec : Recorder) (r : ℕ) (event : Event) → rec.counter ≤ (step_of s rec r event).rec.counter
unfolding advanced tick_event grant_event drive_event
counter_rises s rec r event =
    each_way s rec r event (λ outcome. rec.counter ≤ outcome.rec.counter)
    (record {
      refused = λ _. le_refl _;
      stopped = λ _ _. le_refl _;
      stopping = λ _ _ _. le_refl _;
      going_on = λ _ _ _. by event;
    })
  where
    by : (event : Event) → rec.counter ≤ (event_of s r event (advanced s rec r)).rec.counter
    by tick =
        whether (λ (outcome : Outcome Recorder). rec.counter ≤ outcome.rec.counter) (due s rec r) (λ _. omega arith)
        (λ _. le_refl _)
    by (grant x j) = le_refl _
    by drive = le_refl _

pub places_suffice_lem : PlacesSuffice
places_suffice_lem s rec r event sized e =
    let good = step_good s rec r event (record { form = formed s rec e; size = sized }) in
    (good.form.counter_top, counter_rises s rec r event, good.form.leases_places)
