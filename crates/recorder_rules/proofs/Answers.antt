-- What a recorder can answer, and what it sends. Assumes nothing.
use Prim.Native.Nat.{ℕ, ◌+◌}
use native.Mathlib.Omega.{arith}
use mathlib.Core.Path.{◌≡◌, refl, sym, ◌∙◌}
use mathlib.Core.Bool.{true}
use borrow.Author.Tests.{le-leb}
use Rattle.words.specs.Said.{Said}
use Rattle.words.proofs.Booleans.{whether}
use Rattle.words.proofs.Conditions.{holds_both}
use Rattle.settings.specs.declared.Settings.{Settings}
use Rattle.messages.specs.declared.Message.{Message}
use Rattle.messages.specs.declared.Message.TheVariants.{LeaseRequest}
use Rattle.messages.specs.Messages.{top_counter, has_form}
use Rattle.messages.specs.Answers.{Spoken, refuses, sends, says, sent, nothing, message}
use Rattle.messages.specs.Outcomes.{Outcome}
use Rattle.messages.proofs.Outcomes.{nothing_is_no_message, same_message}
use Rattle.recorder_rules.specs.declared.Recorder.{Recorder}
use Rattle.recorder_rules.specs.declared.RecorderEvent.{RecorderEvent}
use Rattle.recorder_rules.specs.declared.RecorderEvent.TheVariants.{Tick, Grant, Drive}
use Rattle.recorder_rules.specs.Recorder.{advanced, due, granting, standing, tick_event, grant_event, drive_event, event_of, step_of}
use Rattle.recorder_rules.proofs.Ways.{each_way, stands, each_answer}
use Rattle.recorder_rules.proofs.Keeping.{Good, step_good}

pub data RecorderSays : Said Spoken → Type 0 where
  refused : (k : ℕ) → RecorderSays (refuses k)
  stopped : RecorderSays (says "stopped")
  running : RecorderSays (says "running")
  unregistered : RecorderSays (says "unregistered")
  requests : (c : ℕ) → RecorderSays (sends (LeaseRequest c))

pub recorder_says : (s : Settings) (rec : Recorder) (r : ℕ) (event : RecorderEvent)
    → RecorderSays (step_of s rec r event).answer
recorder_says s rec r event =
    each_way s rec r event (λ out. RecorderSays out.answer) (record {
      refused = λ _. refused _;
      stopped = λ _ _. stopped;
      stopping = λ _ _ _. stopped;
      going_on = λ _ _ _. each_answer RecorderSays running unregistered requests s r event (advanced s rec r);
    })

-- it sends nothing but the next request, and then it has counted it
module _ (s : Settings) (rec : Recorder) (r : ℕ) (m : Message) where
  abbrev Counted : Outcome Recorder → Type 0
  Counted out = sent out.answer ≡ message m → (m ≡ LeaseRequest (rec.counter + 1)) × (out.rec.counter ≡ rec.counter + 1)

  sends_nothing : {A : Type 0} (rec' : Recorder) → sent (standing s rec') ≡ message m → A
  unfolding sent
  sends_nothing rec' e = nothing_is_no_message (sym (stands (λ answer. sent answer ≡ nothing) refl refl s rec') ∙ e)

  counted : (event : RecorderEvent) → Counted (event_of s r event (advanced s rec r))
  unfolding sent advanced tick_event grant_event drive_event
  counted Tick =
      whether Counted (due s (advanced s rec r) r) (λ _ e. (sym (same_message e), refl)) (λ _. sends_nothing (advanced s rec r))
  counted (Grant x j) = sends_nothing (granting (advanced s rec r) x j)
  counted Drive = sends_nothing (advanced s rec r)

  pub recorder_sends : (event : RecorderEvent) → Counted (step_of s rec r event)
  unfolding sent
  recorder_sends event =
      each_way s rec r event Counted (record {
        refused = λ _. nothing_is_no_message;
        stopped = λ _ _. nothing_is_no_message;
        stopping = λ _ _ _. nothing_is_no_message;
        going_on = λ _ _ _. counted event;
      })

  -- what is sent has its form
  pub recorder_formed : (event : RecorderEvent) → Good s rec → sent (step_of s rec r event).answer ≡ message m
      → has_form m ≡ true
  unfolding has_form
  recorder_formed event good e =
      let asked = recorder_sends event e in
      let top = (step_good s rec r event good).form.counter_top in
      rw asked.0
      (holds_both (le-leb 1 (rec.counter + 1) (omega arith))
      (le-leb (rec.counter + 1) top_counter (omega (arith, top, asked.1))))
