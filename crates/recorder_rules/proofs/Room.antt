-- There is a place for the newest lease: those kept stand η apart and are younger than P, which is at most 64 η (slack c).
-- Assumes nothing.
use Prim.Native.Nat.{ℕ, suc, ◌-◌, ◌*◌, ◌≤◌, ◌<◌}
use native.Mathlib.Nat.{suc-mul, lt_of_mul-lt-mul_right}
use native.Mathlib.Omega.{arith}
use mathlib.Core.Path.{◌≡◌, ◌∙◌}
use mathlib.Core.Bool.{true}
use mathlib.Core.List.{List, [], ◌∷◌}
use lib.ListN.{length, get_or}
use lib.Seq.{get_or-take, length-take-le}
use borrow.Author.Tests.{leb-true}
use Rattle.words.specs.Tests.{◌≤?◌}
use Rattle.words.proofs.Conditions.{second_holds}
use Rattle.settings.specs.declared.Settings.{Settings}
use Rattle.settings.specs.Settings.{η, P, refusal_of}
use Rattle.settings.proofs.Laws.{accepted, accepted_in_range}
use Rattle.recorder_rules.specs.declared.Recorder.{Recorder}
use Rattle.recorder_rules.specs.Recorder.{last_send_of, open_lease_count, leases, is_zero, spaced, has_form, kept, due, advanced}
use Rattle.recorder_rules.proofs.Formed.{Formed, formed, not_zero}
use Rattle.recorder_rules.proofs.Spacing.{first_to_last, kept_length, kept_young, kept_spaced, kept_last}

-- young leases, the last of them sent at least η before r
few : (s : Settings) (r : ℕ) → 1 ≤ η s → P s ≤ 64 * η s → (xs : List ℕ) → spaced (η s) xs ≡ true
    → ((i : ℕ) → i < length xs → r - get_or xs i 0 < P s) → (1 ≤ length xs → η s ≤ r - get_or xs (length xs - 1) 0) → length xs < 64
few s r h c [] e young before = omega arith
few s r h c (x ∷ xs) e young before =
    let last : suc (length xs) - 1 ≡ length xs = omega arith in
    let sent = rw last at (before (omega arith)) in
    let far = first_to_last (η s) h x xs e in
    lt_of_mul-lt-mul_right (η s) {m = suc (length xs)} {n = 64}
    (rw (suc-mul (length xs) (η s)) (omega (arith, young 0 (omega arith))))

module _ (s : Settings) (rec : Recorder) (sized : length rec.sends ≡ 64) (f : Formed s rec) where
  -- as many leases as are counted
  pub leases_length : length (leases rec) ≡ open_lease_count rec
  leases_length = length-take-le (open_lease_count rec) rec.sends (omega (arith, f.leases_places))

  -- the last of them is the last send
  pub leases_last : 1 ≤ open_lease_count rec → get_or (leases rec) (length (leases rec) - 1) 0 ≡ last_send_of rec
  leases_last some =
      rw leases_length
      (get_or-take (open_lease_count rec) rec.sends (open_lease_count rec - 1) 0 (omega arith) ∙ f.newest
      (omega (arith, f.leases_counter)))

pub room : (s : Settings) (rec : Recorder) (r : ℕ) → refusal_of s ≡ 0 → has_form s rec ≡ true → length rec.sends ≡ 64
    → due s rec r ≡ true → length (kept s r (leases rec)) < 64
room s rec r ok e sized is_due =
    let range = accepted_in_range s ok in
    let f = formed s rec e in
    let xs = leases rec in
    let fewer = kept_length s r xs in
    let counted = leases_length s rec sized f in
    let h = range.η_least in
    few s r h (accepted s ok).c (kept s r xs) (kept_spaced s r h xs f.apart) (kept_young s r xs)
    (λ some.
    let open_lease : 1 ≤ open_lease_count rec = omega arith in
    rw (kept_last s r h xs f.apart some, leases_last s rec sized f open_lease)
    (leb-true _ _ (second_holds (is_zero rec.counter) (η s ≤? r - last_send_of rec) is_due
    (not_zero rec.counter (omega (arith, f.leases_counter))))))

-- the same of the record from which the ended leases are gone
pub room_advanced : (s : Settings) (rec : Recorder) (r : ℕ) → refusal_of s ≡ 0 → has_form s rec ≡ true → length rec.sends ≡ 64
    → due s (advanced s rec r) r ≡ true → open_lease_count (advanced s rec r) < 64
unfolding advanced
room_advanced s rec r ok e sized is_due = room s rec r ok e sized is_due
