-- The four ways that a step can go: refused, stopped already, stopping now, or going on to its
-- event; and what an event is answered. Assumes nothing.
use Prim.Native.Nat.{ℕ, ◌+◌, ◌<◌, ◌≤◌}
use mathlib.Core.Path.{◌≡◌, refl}
use mathlib.Core.Bool.{true, false, ◌||◌, not}
use mathlib.Core.List.{[], ◌∷◌}
use borrow.Author.Tests.{leb-false, ltb-false, eqb-true, eqb-false, not-true, not-false, le-ltb, lt-leb}
use Rattle.words.specs.Tests.{◌<?◌, ◌≤?◌}
use Rattle.words.specs.Said.{Said, first, ◌when◌}
use Rattle.words.proofs.Booleans.{neither_holds, whether}
use Rattle.words.proofs.Said.{none_applies, both_pass, passes_on}
use Rattle.settings.specs.declared.Settings.{Settings}
use Rattle.settings.specs.Settings.{n, refusals, refusal_of}
use Rattle.messages.specs.Messages.{top_reading}
use Rattle.messages.specs.declared.Message.TheVariants.{LeaseRequest}
use Rattle.messages.specs.Answers.{Spoken, refuses, sends, says}
use Rattle.messages.specs.Outcomes.{Outcome, ◌leaving◌}
use Rattle.messages.proofs.Outcomes.{either_way}
use Rattle.recorder_rules.specs.declared.Recorder.{Recorder}
use Rattle.recorder_rules.specs.Recorder.{last_reading_of, is_zero, step_refusals, grant_refusals, lacking, advanced, halted, accepted, due, granting, registered, standing, tick_event, grant_event, drive_event, refusals_of, event_of, step_of}
use Rattle.recorder_rules.specs.declared.RecorderEvent.{RecorderEvent as Event}
use Rattle.recorder_rules.specs.declared.RecorderEvent.TheVariants.{Tick as tick, Grant as grant, Drive as drive}
use Rattle.recorder_rules.proofs.Formed.{Formed, formed, has_form_lem, not_zero, positive}

-- no line of the table applies
abbrev pub Passes : Settings → Recorder → (r : ℕ) → Event → Type 0
Passes s rec r event = first (refusals_of s rec r event) ≡ 0

-- what every step that is not refused knows
pub record Allowed (s : Settings) (rec : Recorder) (r : ℕ) : Type 0 where
  pub settings : refusal_of s ≡ 0
  pub form : Formed s rec
  pub reading_top : r ≤ top_reading
  pub reading_last : last_reading_of rec ≤ r

module _ (s : Settings) (rec : Recorder) (r : ℕ) where
  allowed_step : first (step_refusals s rec r) ≡ 0 → Allowed s rec r
  unfolding refusal_of
  allowed_step e =
      let reading = neither_holds (top_reading <? r) (r <? last_reading_of rec) (none_applies (step_refusals s rec r) e refl 3) in
      record {
        settings = (both_pass (refusals s) _ refl e).0;
        form = formed s rec (not-false _ (none_applies (step_refusals s rec r) e refl 2));
        reading_top = ltb-false _ _ reading.0;
        reading_last = ltb-false _ _ reading.1;
      }

  pub allowed : (event : Event) → Passes s rec r event → Allowed s rec r
  allowed tick e = allowed_step e
  allowed (grant x j) e = allowed_step (both_pass (step_refusals s rec r) _ refl e).0
  allowed drive e = allowed_step e

  -- a grant that is not refused comes from an observer and has been asked for
  pub allowed_grant : (x j : ℕ) → Passes s rec r (grant x j) → (x < n s) × (1 ≤ j) × (j ≤ rec.counter)
  allowed_grant x j e =
      let number = neither_holds (is_zero j) (rec.counter <? j) (none_applies (grant_refusals s rec r x j) e refl 5) in
      (leb-false _ _ (none_applies (grant_refusals s rec r x j) e refl 4), positive j number.0, ltb-false _ _ number.1)

  -- and the other way round
  pub step_passes : Allowed s rec r → first (step_refusals s rec r) ≡ 0
  unfolding refusal_of first
  step_passes ok =
      let fine = none_applies (refusals s) ok.settings refl in
      let last = le-ltb r (last_reading_of rec) ok.reading_last in
      rw (fine 0, fine 1, has_form_lem s rec ok.form, le-ltb top_reading r ok.reading_top, last)

  pub grant_passes : (x j : ℕ) → Allowed s rec r → x < n s → 1 ≤ j → j ≤ rec.counter → first (grant_refusals s rec r x j) ≡ 0
  unfolding first
  grant_passes x j ok there some known =
      passes_on (step_refusals s rec r) (5 when (n s ≤? x) ∷ 6 when (is_zero j || (rec.counter <? j)) ∷ []) refl (step_passes ok)
      (rw (lt-leb (n s) x there, not_zero j some, le-ltb rec.counter j known))

-- what holds of an outcome, whichever way the step goes
pub record Ways (s : Settings) (rec : Recorder) (r : ℕ) (event : Event) (Q : Outcome Recorder → Type 0) : Type 0 where
  pub refused : (Passes s rec r event → ⊥) → Q (refuses (first (refusals_of s rec r event)) leaving rec)
  pub stopped : Passes s rec r event → (rec.stopped ≡ 0 → ⊥) → Q (says "stopped" leaving rec)
  pub stopping : Passes s rec r event → rec.stopped ≡ 0 → lacking s rec r ≡ true → Q (says "stopped" leaving halted rec r)
  pub going_on : Passes s rec r event → rec.stopped ≡ 0 → lacking s rec r ≡ false → Q (event_of s r event (advanced s rec r))

module _ (s : Settings) (rec : Recorder) (r : ℕ) (event : Event) (Q : Outcome Recorder → Type 0) where
  when_accepted : Ways s rec r event Q → Passes s rec r event → Q (accepted s rec r (event_of s r event))
  unfolding accepted
  when_accepted w passes =
      whether Q (not (is_zero rec.stopped)) (λ flag. w.stopped passes (eqb-false _ 0 (not-true _ flag)))
      (λ flag.
      let running = eqb-true _ 0 (not-false _ flag) in
      whether Q (lacking s rec r) (w.stopping passes running) (w.going_on passes running))

pub each_way : (s : Settings) (rec : Recorder) (r : ℕ) (event : Event) (Q : Outcome Recorder → Type 0)
    → Ways s rec r event Q → Q (step_of s rec r event)
unfolding step_of
each_way s rec r event Q w =
    either_way (refusals_of s rec r event) rec _ Q w.refused (when_accepted s rec r event Q w)

-- what holds of both words holds of what is said where nothing is sent
pub stands : (Q : Said Spoken → Type 0) → Q (says "running") → Q (says "unregistered") → (s : Settings) (rec : Recorder)
    → Q (standing s rec)
unfolding standing
stands Q runs waits s rec = whether Q (registered s rec) (λ _. runs) (λ _. waits)

-- and with a request of what an event is answered
pub each_answer : (Q : Said Spoken → Type 0) → Q (says "running") → Q (says "unregistered")
    → ((c : ℕ) → Q (sends (LeaseRequest c)))
    → (s : Settings) (r : ℕ) (event : Event) (rec : Recorder) → Q (event_of s r event rec).answer
unfolding tick_event grant_event drive_event
each_answer Q runs waits asks s r tick rec =
    whether (λ (out : Outcome Recorder). Q out.answer) (due s rec r) (λ _. asks (rec.counter + 1))
    (λ _. stands Q runs waits s rec)
each_answer Q runs waits asks s r (grant x j) rec = stands Q runs waits s (granting rec x j)
each_answer Q runs waits asks s r drive rec = stands Q runs waits s rec
