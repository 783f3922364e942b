-- What a call is, by its buffer: one of another size is refused, and one of the right size is left to the step, which judges the
-- settings itself. Assumes nothing.
use Rattle.std.specs.Prelude.{if◌then◌else◌}
use Prim.Native.Nat.{ℕ}
use mathlib.Core.Path.{◌≡◌, refl, sym, ◌∙◌}
use mathlib.Core.Bool.{Bool, true, false, not}
use mathlib.Core.List.{List, [], ◌∷◌}
use lib.ListN.{length}
use borrow.Author.Tests.{eqb-true, eqb-false, eq-eqb, ne_eqb}
use Rattle.words.specs.Tests.{◌=?◌}
use Rattle.words.specs.Said.{first, ◌when◌}
use Rattle.words.proofs.Said.{first_stays, first_goes_on}
use Rattle.settings.specs.declared.Settings.{Settings}
use Rattle.settings.specs.Settings.{refusals, refusal_of}
use Rattle.messages.specs.Answers.{is_refusal}
use Rattle.messages.proofs.Outcomes.{is_refused}
use Rattle.recorder_rules.specs.declared.Recorder.{Recorder}
use Rattle.recorder_rules.specs.declared.RecorderEvent.{RecorderEvent}
use Rattle.recorder_rules.specs.declared.RecorderEvent.TheVariants.{Tick, Grant, Drive}
use Rattle.recorder_rules.specs.Recorder.{refusals_of, step_of}
use Rattle.firmware_rules.specs.Bytes.{record_bytes, decoded}
use Rattle.firmware_rules.specs.Calls.{code_of, call_refusals, left_by, called}

-- every table begins with the settings' lines
refused_first : (s : Settings) (rec : Recorder) (r : ℕ) (event : RecorderEvent) → (refusal_of s ≡ 0 → ⊥)
    → refusal_of s ≡ first (refusals_of s rec r event)
unfolding refusal_of
refused_first s rec r Tick h = first_stays (refusals s) _ refl refl h
refused_first s rec r (Grant x j) h =
    let shorter = first_stays (refusals s) _ refl refl h in
    first_stays (refusals_of s rec r Tick) _ refl shorter h
refused_first s rec r Drive h = first_stays (refusals s) _ refl refl h

module _ (s : Settings) (bytes : List ℕ) (r : ℕ) (event : RecorderEvent) where
  -- what refuses the call refuses the step
  by_step : (refusal_of s ≡ 0 → ⊥) → left_by bytes (step_of s (decoded bytes) r event) ≡ record { code = refusal_of s; bytes = bytes }
  unfolding step_of left_by code_of is_refusal
  by_step h =
      let same = refused_first s (decoded bytes) r event h in
      rw (is_refused (refusals_of s (decoded bytes) r event) (decoded bytes) _ (λ none. h (same ∙ none))) (rw (← same) refl)

  pub full_size : length bytes ≡ record_bytes → called s bytes r event ≡ left_by bytes (step_of s (decoded bytes) r event)
  unfolding called refusal_of first
  full_size e = by (refusal_of s =? 0) refl
    where
      by : (b : Bool) → (refusal_of s =? 0) ≡ b → called s bytes r event ≡ left_by bytes (step_of s (decoded bytes) r event)
      by true fine =
          let none : first (call_refusals s bytes) ≡ 0
          = first_goes_on (refusals s) (10 when not (length bytes =? record_bytes) ∷ []) refl refl (eqb-true _ 0 fine)
          ∙ rw (eq-eqb _ _ e) refl in
          rw (eq-eqb _ 0 none) refl
      by false given =
          let h = eqb-false (refusal_of s) 0 given in
          let same = first_stays (refusals s) (10 when not (length bytes =? record_bytes) ∷ []) refl refl h in
          rw (← same, given) (sym (by_step h))

  pub other_size : (length bytes ≡ record_bytes → ⊥)
      → called s bytes r event ≡ record { code = (if refusal_of s =? 0 then 10 else refusal_of s); bytes = bytes }
  unfolding called refusal_of first
  other_size h = by (refusal_of s =? 0) refl
    where
      by : (b : Bool) → (refusal_of s =? 0) ≡ b
          → called s bytes r event ≡ record { code = (if b then 10 else refusal_of s); bytes = bytes }
      by true fine =
          let ten : first (call_refusals s bytes) ≡ 10
          = first_goes_on (refusals s) (10 when not (length bytes =? record_bytes) ∷ []) refl refl (eqb-true _ 0 fine)
          ∙ rw (ne_eqb _ _ h) refl in
          rw ten refl
      by false given =
          let same =
          first_stays (refusals s) (10 when not (length bytes =? record_bytes) ∷ []) refl refl
          (eqb-false (refusal_of s) 0 given) in
          rw (← same, given) refl
