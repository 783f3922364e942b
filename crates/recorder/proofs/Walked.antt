-- What the parts of a step give, put together: a step that is not refused goes by what `advance` gives, and the record at its
-- event has room for one lease more.
use Rattle.std.specs.Prelude.{if◌then◌else◌}
use Prim.Native.Nat.{ℕ}
use mathlib.Core.Path.{◌≡◌, refl, sym, ap, ◌∙◌}
use mathlib.Core.Bool.{Bool, true, false, not}
use mathlib.Core.List.{List}
use lib.ListN.{length}
use Rattle.words.specs.Said.{Refusal, first}
use Rattle.settings.specs.declared.Settings.{Settings}
use Rattle.messages.specs.Answers.{says}
use Rattle.messages.specs.Outcomes.{Outcome, ◌leaving◌, unless_refused}
use Rattle.messages.proofs.Outcomes.{not_refused}
use Rattle.recorder_rules.specs.declared.Recorder.{Recorder}
use Rattle.recorder_leases.specs.declared.Advanced.{Advanced}
use Rattle.recorder_leases.specs.declared.Advanced.TheVariants.{GoesOn, Stopped}
use Rattle.recorder_rules.specs.Recorder.{is_zero, leases, lacking, kept, placed, advanced, halted, accepted}
use Rattle.recorder_rules.specs.Claims.{Sized}
use Rattle.recorder_leases.specs.Advanced.{advanced_to}
use Rattle.recorder.specs.Parts.{Roomy}
use Rattle.recorder_rules.proofs.Formed.{has_form_lem}
use Rattle.recorder_rules.proofs.Placing.{placed_back}
use Rattle.recorder_rules.proofs.Room.{room_advanced}
use Rattle.recorder_rules.proofs.Ways.{Allowed}

-- the event comes, or *stopped* is said
abbrev pub going : (event : Recorder → Outcome Recorder) → Advanced → Outcome Recorder
going event (GoesOn rec) = event rec
going event (Stopped rec) = says "stopped" leaving rec

module _ (s : Settings) (rec : Recorder) (r : ℕ) where
  -- what `advance` gives, by its two tests
  abbrev to : (is_stopped lacks : Bool) → Advanced
  to is_stopped lacks =
      if is_stopped then Stopped rec else (if lacks then Stopped (halted rec r) else GoesOn (advanced s rec r))

  pub by_advance : (table : List Refusal) → first table ≡ 0 → (event : Recorder → Outcome Recorder)
      → unless_refused table rec (accepted s rec r event) ≡ going event (advanced_to s rec r)
  unfolding accepted advanced_to
  by_advance table none event =
      not_refused table rec (accepted s rec r event) none ∙ by (not (is_zero rec.stopped)) (lacking s rec r)
    where
      by : (is_stopped lacks : Bool)
          → (if is_stopped then says "stopped" leaving rec else (if lacks then says "stopped" leaving halted rec r else event
          (advanced s rec r)))
          ≡ going event (to is_stopped lacks)
      by true lacks = refl
      by false true = refl
      by false false = refl

  -- a step that goes on leaves the ended leases behind
  pub goes_on_lem : {next : Recorder} → GoesOn next ≡ advanced_to s rec r → next ≡ advanced s rec r
  unfolding advanced_to
  goes_on_lem {next} = by (not (is_zero rec.stopped)) (lacking s rec r)
    where
      by : (is_stopped lacks : Bool) → GoesOn next ≡ to is_stopped lacks → next ≡ advanced s rec r
      by true lacks e = cc
      by false true e = cc
      by false false e = cc

  -- the leases stand in their places, and there is one more for the newest
  pub roomy : Allowed s rec r → Sized rec → Roomy s (advanced s rec r) r
  unfolding advanced
  roomy ok sized =
      let back = placed_back (kept s r (leases rec)) in
      record {
        counter = ok.form.counter_top;
        open_leases = ap length back;
        sends = ap placed (sym back);
        room = room_advanced s rec r ok.settings (has_form_lem s rec ok.form) sized.sends;
      }
