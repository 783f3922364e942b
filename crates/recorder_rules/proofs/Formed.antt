-- The form of the record, condition by condition, as facts about its numbers. Assumes nothing.
use Prim.Native.Nat.{ℕ, zero, suc, ◌+◌, ◌-◌, ◌<◌, ◌≤◌, zero-le}
use native.Mathlib.Omega.{arith}
use mathlib.Core.Path.{◌≡◌, refl, sym, ap, ◌∙◌}
use mathlib.Core.Bool.{true, false, not}
use mathlib.Core.List.{List}
use lib.ListN.{length, drop, get_or}
use lib.Seq.{get_or-drop}
use borrow.Author.Tests.{leb-true, ltb-true, eqb-true, le-leb, lt-ltb, eq-eqb, ne_eqb, not-false}
use Rattle.words.specs.Tests.{◌<?◌, ◌≤?◌, ◌=?◌}
use Rattle.words.specs.Lists.{every}
use Rattle.words.proofs.Booleans.{both_hold, not_both}
use Rattle.words.proofs.Conditions.{holds_both, second_holds, holds_either, every_at, holds_every, every_anywhere}
use Rattle.settings.specs.declared.Settings.{Settings}
use Rattle.settings.specs.Settings.{n, η, P}
use Rattle.messages.specs.Messages.{top_counter, top_reading}
use Rattle.recorder_rules.specs.declared.Recorder.{Recorder}
use Rattle.recorder_rules.specs.Recorder.{last_send_of, last_reading_of, open_lease_count, leases, is_zero, spaced, all_zero, young, form, has_form}

pub record AllZero (rec : Recorder) : Type 0 where
  pub stopped : rec.stopped ≡ 0
  pub counter : rec.counter ≡ 0
  pub last_send : last_send_of rec ≡ 0
  pub no_lease : open_lease_count rec ≡ 0
  pub sends : (i : ℕ) → get_or rec.sends i 0 ≡ 0
  pub grants : (x : ℕ) → get_or rec.grants x 0 ≡ 0

pub record Formed (s : Settings) (rec : Recorder) : Type 0 where
  pub counter_top : rec.counter ≤ top_counter
  pub flag : rec.stopped ≤ 1
  pub before_first : rec.counter ≡ 0 → AllZero rec
  pub sends_unused_lem : (i : ℕ) → open_lease_count rec ≤ i → get_or rec.sends i 0 ≡ 0
  pub grants_unused_lem : (x : ℕ) → n s ≤ x → get_or rec.grants x 0 ≡ 0
  pub grants_counter : (x : ℕ) → get_or rec.grants x 0 ≤ rec.counter
  pub some_lease : 1 ≤ rec.counter → 1 ≤ open_lease_count rec
  pub leases_places : open_lease_count rec ≤ 64
  pub leases_counter : open_lease_count rec ≤ rec.counter
  pub apart : spaced (η s) (leases rec) ≡ true
  pub newest : 1 ≤ rec.counter → get_or rec.sends (open_lease_count rec - 1) 0 ≡ last_send_of rec
  pub counter_send : rec.counter - 1 ≤ last_send_of rec
  pub send_reading : last_send_of rec ≤ last_reading_of rec
  pub reading_top : last_reading_of rec ≤ top_reading
  pub youth : rec.stopped ≡ 0 → (i : ℕ) → i < length (leases rec) → last_reading_of rec - get_or (leases rec) i 0 < P s

-- tests of numbers for 0
pub not_zero : (x : ℕ) → 1 ≤ x → is_zero x ≡ false
not_zero x h = ne_eqb x 0 (λ e. omega arith)

pub positive : (x : ℕ) → is_zero x ≡ false → 1 ≤ x
positive zero e = absurd (not_both refl e)
positive (suc x) e = omega arith

-- 0 from the place k on
module _ (k : ℕ) (xs : List ℕ) where
  zero_from : every is_zero (drop k xs) ≡ true → (i : ℕ) → k ≤ i → get_or xs i 0 ≡ 0
  zero_from e i h =
      let there : k + (i - k) ≡ i = omega arith in
      let at = sym (get_or-drop k xs (i - k) 0) ∙ eqb-true _ 0 (every_anywhere is_zero 0 refl (drop k xs) e (i - k)) in
      rw there at at

  from_zero : ((i : ℕ) → k ≤ i → get_or xs i 0 ≡ 0) → every is_zero (drop k xs) ≡ true
  from_zero h = holds_every is_zero 0 (drop k xs) (λ i b. eq-eqb _ 0 (get_or-drop k xs i 0 ∙ h (k + i) (omega arith)))

module _ (rec : Recorder) where
  all_zero_lem : all_zero rec ≡ true → AllZero rec
  all_zero_lem e =
      let grants = both_hold _ (every is_zero rec.grants) e in
      let sends = both_hold _ (every is_zero rec.sends) grants.0 in
      let leases = both_hold _ (is_zero (open_lease_count rec)) sends.0 in
      let send = both_hold _ (is_zero (last_send_of rec)) leases.0 in
      let first_two = both_hold (is_zero rec.stopped) (is_zero rec.counter) send.0 in
      record {
        stopped = eqb-true _ 0 first_two.0;
        counter = eqb-true _ 0 first_two.1;
        last_send = eqb-true _ 0 send.1;
        no_lease = eqb-true _ 0 leases.1;
        sends = λ i. zero_from 0 rec.sends sends.1 i zero-le;
        grants = λ x. zero_from 0 rec.grants grants.1 x zero-le;
      }

  zero_all : AllZero rec → all_zero rec ≡ true
  zero_all z =
      holds_both (holds_both (holds_both (holds_both (holds_both
      (eq-eqb _ 0 z.stopped) (eq-eqb _ 0 z.counter)) (eq-eqb _ 0 z.last_send)) (eq-eqb _ 0 z.no_lease))
      (from_zero 0 rec.sends (λ i h. z.sends i))) (from_zero 0 rec.grants (λ x h. z.grants x))

module _ (s : Settings) (rec : Recorder) where
  pub formed : has_form s rec ≡ true → Formed s rec
  unfolding has_form form
  formed e =
      let is : (i : ℕ) → get_or (form s rec) i true ≡ true = every_anywhere (λ condition. condition) true refl (form s rec) e in
      record {
        counter_top = leb-true _ _ (is 0);
        flag = leb-true _ _ (is 1);
        before_first =
            λ z. all_zero_lem rec (second_holds (not (is_zero rec.counter)) (all_zero rec) (is 2) (ap not (eq-eqb _ 0 z)));
        sends_unused_lem = zero_from (open_lease_count rec) rec.sends (is 3);
        grants_unused_lem = zero_from (n s) rec.grants (is 4);
        grants_counter = λ x.
            leb-true _ _ (every_anywhere (λ grant. grant ≤? rec.counter) 0 (le-leb 0 rec.counter zero-le) rec.grants
            (is 5)
            x);
        some_lease = λ h. leb-true _ _ (second_holds (is_zero rec.counter) (1 ≤? open_lease_count rec) (is 6) (not_zero _ h));
        leases_places = leb-true _ _ (is 7);
        leases_counter = leb-true _ _ (is 8);
        apart = is 9;
        newest = λ h.
            eqb-true _ _ (second_holds (is_zero rec.counter) (get_or rec.sends (open_lease_count rec - 1) 0 =? last_send_of rec)
            (is 10)
            (not_zero _ h));
        counter_send = leb-true _ _ (is 11);
        send_reading = leb-true _ _ (is 12);
        reading_top = leb-true _ _ (is 13);
        youth = λ z i h.
            let all_young = second_holds (not (is_zero rec.stopped)) (young s rec) (is 14) (ap not (eq-eqb _ 0 z)) in
            ltb-true _ _ (every_at (λ send. last_reading_of rec - send <? P s) 0 (leases rec) all_young i h);
      }

  pub has_form_lem : Formed s rec → has_form s rec ≡ true
  unfolding has_form form
  has_form_lem f =
      holds_both (le-leb _ _ f.counter_top)
      (holds_both (le-leb _ _ f.flag)
      (holds_both (holds_either (not (is_zero rec.counter))
      (λ z. zero_all rec (f.before_first (eqb-true _ 0 (not-false _ z)))))
      (holds_both (from_zero (open_lease_count rec) rec.sends f.sends_unused_lem)
      (holds_both (from_zero (n s) rec.grants f.grants_unused_lem)
      (holds_both (holds_every (λ grant. grant ≤? rec.counter) 0 rec.grants (λ x h. le-leb _ _ (f.grants_counter x)))
      (holds_both (holds_either (is_zero rec.counter) (λ z. le-leb _ _ (f.some_lease (positive _ z))))
      (holds_both (le-leb _ _ f.leases_places)
      (holds_both (le-leb _ _ f.leases_counter)
      (holds_both f.apart
      (holds_both (holds_either (is_zero rec.counter) (λ z. eq-eqb _ _ (f.newest (positive _ z))))
      (holds_both (le-leb _ _ f.counter_send)
      (holds_both (le-leb _ _ f.send_reading)
      (holds_both (le-leb _ _ f.reading_top)
      (holds_both (holds_either (not (is_zero rec.stopped))
      (λ z. holds_every (λ send. last_reading_of rec - send <? P s) 0 (leases rec)
      (λ i h. lt-ltb _ _ (f.youth (eqb-true _ 0 (not-false _ z)) i h))))
      refl))))))))))))))
