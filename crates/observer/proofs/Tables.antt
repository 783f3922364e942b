-- An observer's tables of refusals, each behind the one before it, as code knows it that asks for the first by a call and `?`.
use Rattle.std.specs.Prelude.{if◌then◌else◌}
use Prim.Native.Nat.{ℕ}
use mathlib.Core.Path.{◌≡◌, refl}
use mathlib.Core.Bool.{Bool, not, ◌||◌}
use mathlib.Core.List.{[], ◌∷◌}
use Rattle.words.specs.Tests.{◌<?◌, ◌≤?◌, ◌=?◌}
use Rattle.words.specs.Said.{first, ◌when◌}
use Rattle.refusals.specs.declared.Refusal.{Refusal}
use Rattle.refusals.specs.Refusals.{number_of}
use Rattle.refusals.proofs.Tables.{refused_before, accepted_before}
use Rattle.settings.specs.declared.Settings.{Settings}
use Rattle.settings.specs.Settings.{n, refusals, refusal_of}
use Rattle.messages.specs.Messages.{top_counter}
use Rattle.messages.specs.Outcomes.{bad_reading}
use Rattle.observer_rules.specs.declared.Observer.{Observer}
use Rattle.observer_rules.specs.Observer.{has_form, last_reading_of, shared_refusals, request_refusals, cut_refusals}

-- of a cut: what refuses its request refuses it, and 9 decides behind it
module _ (s : Settings) (o : Observer) (x r c k : ℕ) where
  pub cut_refused : (e : Refusal) → number_of e ≡ first (request_refusals s o x r c) → number_of e ≡ first (cut_refusals s o x r c k)
  cut_refused = refused_before (request_refusals s o x r c) (9 when (2 <? k) ∷ []) refl

  pub cut_decides : 0 ≡ first (request_refusals s o x r c) → (if 2 <? k then 9 else 0) ≡ first (cut_refusals s o x r c k)
  unfolding first
  cut_decides = accepted_before (request_refusals s o x r c) (9 when (2 <? k) ∷ []) refl

-- of a request: what all steps share, with 4 by its reading, and behind it 6
module _ (s : Settings) (o : Observer) (x r c : ℕ) where
  pub request_refused : (e : Refusal) → number_of e ≡ first (shared_refusals s o x (bad_reading (last_reading_of o) r))
      → number_of e ≡ first (request_refusals s o x r c)
  request_refused = refused_before (shared_refusals s o x (bad_reading (last_reading_of o) r)) (6 when ((c =? 0) || (top_counter <? c)) ∷ []) refl

  pub request_decides : 0 ≡ first (shared_refusals s o x (bad_reading (last_reading_of o) r))
      → (if (c =? 0) || (top_counter <? c) then 6 else 0) ≡ first (request_refusals s o x r c)
  unfolding first
  request_decides = accepted_before (shared_refusals s o x (bad_reading (last_reading_of o) r)) (6 when ((c =? 0) || (top_counter <? c)) ∷ []) refl

-- of every step: the settings' own, and behind them 3, 4 and 5
module _ (s : Settings) (o : Observer) (x : ℕ) (bad : Bool) where
  pub shared_refused : (e : Refusal) → number_of e ≡ refusal_of s → number_of e ≡ first (shared_refusals s o x bad)
  unfolding refusal_of
  shared_refused = refused_before (refusals s) (3 when not (has_form s o) ∷ 4 when bad ∷ 5 when (n s ≤? x) ∷ []) refl

  pub shared_decide : 0 ≡ refusal_of s
      → (if not (has_form s o) then 3 else (if bad then 4 else (if n s ≤? x then 5 else 0))) ≡ first (shared_refusals s o x bad)
  unfolding refusal_of first
  shared_decide = accepted_before (refusals s) (3 when not (has_form s o) ∷ 4 when bad ∷ 5 when (n s ≤? x) ∷ []) refl
