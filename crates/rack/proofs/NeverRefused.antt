-- In a run the recorder is never refused: its record keeps its form, its readings are in range and do not fall, and a grant
-- that arrives was given by one of the observers, for a number that was asked for.
use Prim.Native.Nat.{ℕ, ◌≤◌}
use native.Mathlib.Nat.{le_trans}
use mathlib.Core.Path.{◌≡◌, refl}
use mathlib.Core.Bool.{Bool, false}
use mathlib.Core.List.{List}
use Rattle.settings.specs.declared.Settings.{Settings}
use Rattle.settings.specs.Settings.{window, refusal_of}
use Rattle.messages.specs.declared.Message.TheVariants.{LeaseGrant}
use Rattle.messages.specs.Answers.{is_refusal}
use Rattle.recorder_rules.specs.declared.Recorder.{Recorder}
use Rattle.recorder_rules.specs.Recorder.{advanced}
use Rattle.recorder_rules.specs.declared.RecorderEvent.{RecorderEvent}
use Rattle.recorder_rules.specs.declared.RecorderEvent.TheVariants.{Tick as tick, Grant as grant, Drive as drive}
use Rattle.recorder_rules.proofs.Ways.{Passes, Allowed, step_passes, grant_passes, each_way, each_answer}
use Rattle.rack.specs.Clocks.{Clocks}
use Rattle.rack.specs.Runs.{Rules, ours_within, Event, party_key, readings_at, on_clock, delivered, perform, state_after, answer_to}
use Rattle.rack.specs.Runs.Event.{at_recorder}
use Rattle.rack.specs.Runs.Party.{recorder, observer}
use Rattle.rack.specs.Claims.{RecorderIsNeverRefused}
use Rattle.rack.proofs.Clocks.{is_reading}
use Rattle.rack.proofs.Invariant.{Marks, behind}
use Rattle.rack.proofs.Along.{reading_of, Adds, adds, Holds, from_start}

module _ (s : Settings) (ok : refusal_of s ≡ 0) (w : Settings → ℕ) (window_fits : w s ≤ window s) (clocks : Clocks) (L : ℕ)
    (p : Bool) where
  abbrev rules : Rules
  rules = ours_within w

  module _ (marks : Marks) (past : List Event) (inv : Holds s ok w window_fits clocks L p marks past) (g r : ℕ) where
    abbrev rec : Recorder
    rec = (state_after rules s past).recorder

    allowed : (e : RecorderEvent) → Adds rules s clocks past (at_recorder g r e) → Allowed s rec r
    unfolding on_clock readings_at
    allowed e add =
        let no_fall = reading_of past (at_recorder g r e) (record { who = party_key recorder; r = r }) refl add.no_fall in
        record {
          settings = ok;
          form = inv.recorder_part.good.form;
          reading_top = (is_reading s clocks.recorder g r add.on_clock_lem).1;
          reading_last = le_trans inv.recorder_read no_fall;
        }

    pub passes : (e : RecorderEvent) → Adds rules s clocks past (at_recorder g r e) → Passes s rec r e
    unfolding delivered
    passes tick add = step_passes s rec r (allowed tick add)
    passes drive add = step_passes s rec r (allowed drive add)
    passes (grant x j) add =
        let f = (behind s clocks L p inv (observer x) (LeaseGrant j) add.arrived).1 x refl in
        grant_passes s rec r x j (allowed (grant x j) add) f.2 f.3 f.4

pub recorder_is_never_refused_lem : RecorderIsNeverRefused
unfolding answer_to perform is_refusal
recorder_is_never_refused_lem s ok w fits clocks past g r e run =
    let a = adds (ours_within w) s clocks past (at_recorder g r e) run in
    let inv = from_start s ok w fits clocks past a.before in
    let rec = (state_after (ours_within w) s past).recorder in
    each_way s rec r e (λ out. is_refusal out.answer ≡ false)
    (record {
      refused = λ no. absurd (no (passes s ok w fits clocks 0 false _ past inv g r e a));
      stopped = λ _ _. refl;
      stopping = λ _ _ _. refl;
      going_on = λ _ _ _. each_answer (λ answer. is_refusal answer ≡ false) refl refl (λ c. refl) s r e (advanced s rec r);
    })
