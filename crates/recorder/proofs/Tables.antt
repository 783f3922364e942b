-- A recorder's tables of refusals, each behind the one before it, as code knows it that asks for the first by a call and `?`.
use Rattle.std.specs.Prelude.{if◌then◌else◌}
use Prim.Native.Nat.{ℕ}
use mathlib.Core.Path.{◌≡◌, refl}
use mathlib.Core.Bool.{not}
use mathlib.Core.List.{[], ◌∷◌}
use Rattle.words.specs.Said.{first, ◌when◌}
use Rattle.refusals.specs.declared.Refusal.{Refusal}
use Rattle.refusals.specs.Refusals.{number_of}
use Rattle.refusals.proofs.Tables.{refused_before, accepted_before}
use Rattle.settings.specs.declared.Settings.{Settings}
use Rattle.settings.specs.Settings.{refusals, refusal_of}
use Rattle.messages.specs.Outcomes.{bad_reading}
use Rattle.recorder_rules.specs.declared.Recorder.{Recorder}
use Rattle.recorder_rules.specs.declared.RecorderEvent.{RecorderEvent}
use Rattle.recorder_rules.specs.declared.RecorderEvent.TheVariants.{Tick, Grant, Drive}
use Rattle.recorder_rules.specs.Recorder.{last_reading_of, has_form, step_refusals, refusals_of}
use Rattle.recorder.specs.Parts.{grant_lines}

module _ (s : Settings) (rec : Recorder) (reading : ℕ) where
  -- of every step: the settings' own, and behind them 3 and 4
  pub step_refused : (e : Refusal) → number_of e ≡ refusal_of s → number_of e ≡ first (step_refusals s rec reading)
  unfolding refusal_of
  step_refused = refused_before (refusals s) (3 when not (has_form s rec) ∷ 4 when bad_reading (last_reading_of rec) reading ∷ []) refl

  pub step_decides : 0 ≡ refusal_of s
      → (if not (has_form s rec) then 3 else (if bad_reading (last_reading_of rec) reading then 4 else 0)) ≡ first (step_refusals s rec reading)
  unfolding refusal_of first
  step_decides = accepted_before (refusals s) (3 when not (has_form s rec) ∷ 4 when bad_reading (last_reading_of rec) reading ∷ []) refl

  -- and behind those of every step a grant's
  pub event_refused : (event : RecorderEvent) (e : Refusal) → number_of e ≡ first (step_refusals s rec reading)
      → number_of e ≡ first (refusals_of s rec reading event)
  event_refused Tick e told = told
  event_refused (Grant x j) e told = refused_before (step_refusals s rec reading) (grant_lines s rec x j) refl e told
  event_refused Drive e told = told

  pub grant_decides : (x j : ℕ) → 0 ≡ first (step_refusals s rec reading)
      → first (grant_lines s rec x j) ≡ first (refusals_of s rec reading (Grant x j))
  grant_decides x j = accepted_before (step_refusals s rec reading) (grant_lines s rec x j) refl
