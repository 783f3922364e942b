-- A recorder that does not stop: each lease that has ended has the grants of the next number, so that the newest is still
-- young, because nobody has granted a number that was not asked for. Assumes nothing.
use Prim.Native.Nat.{ℕ, zero, suc, ◌+◌, ◌-◌, ◌≤◌, ◌<◌}
use native.Mathlib.Nat.{not-suc-le-zero, le_of_suc-le-suc}
use native.Mathlib.Omega.{arith}
use mathlib.Core.Path.{◌≡◌, refl, sym, ◌∙◌}
use mathlib.Core.Bool.{Bool, true, false, ◌&&◌, not}
use mathlib.Core.List.{List, [], ◌∷◌}
use lib.ListN.{length, get_or}
use borrow.Author.Tests.{le-leb, leb-true, leb-false, not-false}
use Rattle.words.specs.Tests.{◌≤?◌}
use Rattle.words.proofs.Booleans.{neither_holds}
use Rattle.settings.specs.declared.Settings.{Settings}
use Rattle.settings.specs.Settings.{P, refusal_of}
use Rattle.quorums.specs.Quorums.{survives}
use Rattle.quorums.proofs.Quorums.{a_survivor}
use Rattle.recorder_rules.specs.declared.Recorder.{Recorder}
use Rattle.recorder_rules.specs.Recorder.{last_send_of, open_lease_count, leases, oldest, granted, has_ended, kept, lacking_from, lacking}
use Rattle.recorder_rules.proofs.Formed.{Formed}
use Rattle.recorder_rules.proofs.Spacing.{kept_some}
use Rattle.recorder_rules.proofs.Room.{leases_length, leases_last}
use Rattle.recorder_rules.proofs.Grants.{granted_at}

module _ (s : Settings) (rec : Recorder) (r : ℕ) where
  granted_from : (i : ℕ) (xs : List ℕ) → lacking_from s rec r i xs ≡ false → (k : ℕ) → k < length xs → P s ≤ r - get_or xs k 0
      → survives s (granted rec (i + k + 1)) ≡ true
  unfolding lacking_from
  granted_from i [] e k h over = absurd (not-suc-le-zero h)
  granted_from i (x ∷ xs) e zero h over =
      let parts = neither_holds (has_ended s r x && not (survives s (granted rec (i + 1)))) (lacking_from s rec r (i + 1) xs) e in
      let this = rw (le-leb (P s) (r - x) over) at parts.0 in
      let here : i + 0 + 1 ≡ i + 1 = omega arith in
      rw here (not-false _ this)
  granted_from i (x ∷ xs) e (suc k) h over =
      let parts = neither_holds (has_ended s r x && not (survives s (granted rec (i + 1)))) (lacking_from s rec r (i + 1) xs) e in
      let there : i + suc k + 1 ≡ i + 1 + k + 1 = omega arith in
      rw there (granted_from (i + 1) xs parts.1 k (le_of_suc-le-suc h) over)

  -- the open lease at the place k has the number oldest + k
  pub ended_granted : lacking s rec r ≡ false → (k : ℕ) → k < length (leases rec) → P s ≤ r - get_or (leases rec) k 0
      → survives s (granted rec (oldest rec + k + 1)) ≡ true
  unfolding lacking
  ended_granted e = granted_from (oldest rec) (leases rec) e

  -- without open leases none is lacking
  pub none_lacks : open_lease_count rec ≡ 0 → lacking s rec r ≡ false
  unfolding lacking lacking_from
  none_lacks e = rw e

  module _ (accepted : refusal_of s ≡ 0) (f : Formed s rec) (sized : length rec.sends ≡ 64) (e : lacking s rec r ≡ false)
    where
      pub newest_young : 1 ≤ open_lease_count rec → r - last_send_of rec < P s
      newest_young some = by (P s ≤? r - last_send_of rec) refl
        where
          number : ℕ
          number = oldest rec + (length (leases rec) - 1) + 1

          by : (over : Bool) → (P s ≤? r - last_send_of rec) ≡ over → r - last_send_of rec < P s
          by false u = leb-false _ _ u
          by true u =
              let counted = leases_length s rec sized f in
              let past = rw (sym (leases_last s rec sized f some)) at (leb-true (P s) (r - last_send_of rec) u) in
              let x = a_survivor s accepted (granted rec number) (ended_granted e (length (leases rec) - 1) (omega arith) past) in
              let asked : number ≤ get_or rec.grants x.0 0 =
              leb-true _ _ (sym (granted_at rec number x.0 (omega arith)) ∙ x.2) in
              let z : ⊥ = omega (arith, f.grants_counter x.0, f.leases_counter) in
              absurd z

      -- so the newest lease is not removed
      pub newest_kept : 1 ≤ open_lease_count rec → 1 ≤ length (kept s r (leases rec))
      newest_kept some =
          let counted = leases_length s rec sized f in
          kept_some s r (leases rec) (length (leases rec) - 1) (omega arith)
          (rw (leases_last s rec sized f some) (newest_young some))
