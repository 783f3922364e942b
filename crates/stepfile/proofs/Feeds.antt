-- A line ends at the first line feed, or with what there is.
use Rattle.std.specs.Prelude.{Some, None, position, cond, is_some, unwrap_or, if◌then◌else◌}
use Rattle.std.specs.List.{position_or_len}
use Rattle.std.proofs.Common.{arith, ◌≡◌, refl, sym, ap, ◌∙◌, ℕ, suc, ◌+◌, ◌<◌, ◌≤◌, List, [], ◌∷◌, length, Bool, true, false}
use mathlib.Core.Bool.{true≢false, not}
use borrow.Author.Tests.{ltb-true, ltb-false}
use Rattle.words.specs.Tests.{◌=?◌, ◌<?◌}
use Rattle.stepfile_rules.specs.Parts.{line_length}

-- how many bytes stand before the first line feed
abbrev before : List ℕ → ℕ
before s = position_or_len (λ byte. byte =? 10) s

-- what the line has, if a line feed ends it and if none does
record Ends (s : List ℕ) : Type 0 where
  fed : before s < length s → line_length s ≡ before s + 1
  unfed : length s ≤ before s → line_length s ≡ length s

each : (s : List ℕ) → Ends s
unfolding line_length
each [] = record { fed = λ h. absurd (let z : ⊥ = omega (arith, h) in z); unfed = λ h. refl }
each (byte ∷ bytes) = let b = by (byte =? 10) (each bytes) in record { fed = b.0; unfed = b.1 }
  where
    by : (t : Bool) → Ends bytes
        → (cond (not t) (1 + before bytes) 0 < suc (length bytes) → (if t then 1 else suc (line_length bytes)) ≡ cond (not t) (1 + before bytes) 0 + 1)
        × (suc (length bytes) ≤ cond (not t) (1 + before bytes) 0 → (if t then 1 else suc (line_length bytes)) ≡ suc (length bytes))
    by true e = (λ h. refl, λ h. absurd (let z : ⊥ = omega (arith, h) in z))
    by false e = (λ h. omega (arith, e.fed (omega (arith, h))), λ h. omega (arith, e.unfed (omega (arith, h))))

pub ends : (s : List ℕ) (end : ℕ) → position (λ byte. byte =? 10) s ≡ Some end → line_length s ≡ end + 1
ends s end = by (before s <? length s) refl
  where
    by : (t : Bool) → (before s <? length s) ≡ t → cond t (Some (before s)) None ≡ Some end → line_length s ≡ end + 1
    by true h e = (each s).fed (ltb-true (before s) (length s) h) ∙ ap (λ o. unwrap_or o end + 1) e
    by false h e = absurd (true≢false (sym (ap is_some e)))

pub within : (s : List ℕ) (end : ℕ) → position (λ byte. byte =? 10) s ≡ Some end → end < length s
within s end = by (before s <? length s) refl
  where
    by : (t : Bool) → (before s <? length s) ≡ t → cond t (Some (before s)) None ≡ Some end → end < length s
    by true h e = omega (arith, ltb-true (before s) (length s) h, ap (λ o. unwrap_or o end) e)
    by false h e = absurd (true≢false (sym (ap is_some e)))

pub none_ends : (s : List ℕ) → position (λ byte. byte =? 10) s ≡ None → line_length s ≡ length s
none_ends s = by (before s <? length s) refl
  where
    by : (t : Bool) → (before s <? length s) ≡ t → cond t (Some (before s)) None ≡ None → line_length s ≡ length s
    by true h e = absurd (true≢false (ap is_some e))
    by false h e = (each s).unfed (ltb-false (before s) (length s) h)
