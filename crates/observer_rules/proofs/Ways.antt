-- The ways that a step of the observer can go: refused, or done, each with its answer and with what it leaves.
use Rattle.std.specs.Prelude.{if◌then◌else◌}
use Prim.Native.Nat.{ℕ, ◌+◌, ◌≤◌, ◌<◌}
use native.Mathlib.Omega.{arith}
use mathlib.Core.Path.{◌≡◌, refl}
use mathlib.Core.Bool.{Bool, true, false}
use mathlib.Core.List.{[], ◌∷◌}
use borrow.Author.Tests.{ltb-true, ltb-false, leb-false, le-leb, not-false}
use Rattle.words.specs.Tests.{◌<?◌}
use Rattle.words.specs.Lists.{every}
use Rattle.words.specs.Said.{first}
use Rattle.words.proofs.Booleans.{neither_holds}
use Rattle.words.proofs.Conditions.{holds_both}
use Rattle.words.proofs.Said.{none_applies}
use Rattle.settings.specs.declared.Settings.{Settings}
use Rattle.settings.specs.Settings.{n, O}
use Rattle.messages.specs.declared.Message.{Message}
use Rattle.messages.specs.declared.Message.TheVariants.{LeaseGrant, CheckAck}
use Rattle.messages.specs.Messages.{top_counter, top_reading, has_form}
use Rattle.messages.specs.Answers.{refuses, sends, says, sent, message}
use Rattle.messages.specs.Outcomes.{Outcome, ◌leaving◌, bad_reading}
use Rattle.messages.proofs.Outcomes.{either_way, nothing_is_no_message, same_message}
use Rattle.observer_rules.specs.declared.Observer.{Observer}
use Rattle.observer_rules.specs.declared.ObserverEvent.{ObserverEvent}
use Rattle.observer_rules.specs.declared.ObserverEvent.TheVariants.{Request, Cut, Check}
use Rattle.observer_rules.specs.Observer.{last_reading_of, at_reading, request_refusals, check_refusals, stores, store_all, store, stores_of, status_at, answer_of, refusals_of, reading_after, step_of}
use Rattle.observer_rules.specs.Observer.Store.{deadline, latest}
use Rattle.observer_rules.proofs.Laws.{Stored, stored, known_counter, request_accepted}

pub data Way (s : Settings) (o : Observer) (x r : ℕ) : ObserverEvent → Outcome Observer → Type 0 where
  refusing : (event : ObserverEvent) (k : ℕ) → Way s o x r event (refuses k leaving o)
  granting : (c : ℕ) → x < n s → o.latest < c → c ≤ top_counter
      → Way s o x r (Request c) (sends (LeaseGrant c) leaving record { latest = c; deadline = r + O s; last_reading = r })
  idle : (c : ℕ) → Way s o x r (Request c) (says "silent" leaving at_reading r o)
  cutting : (c k : ℕ) {o' : Observer} → Stored s o r c o' → Way s o x r (Cut c k) (says "cut" leaving at_reading 0 o')
  acking : (ts : ℕ) → x < n s → o.latest ≤ top_counter → ts ≤ top_reading
      → Way s o x r (Check ts) (sends (CheckAck ts o.latest (status_at o r)) leaving at_reading r o)

module _ (s : Settings) (o : Observer) (x r : ℕ) where
  done : (event : ObserverEvent) → first (refusals_of s o x r event) ≡ 0
      → Way s o x r event (answer_of o r event leaving at_reading (reading_after r event) (store_all (stores_of s o r event) o))
  unfolding answer_of stores_of reading_after stores store_all store
  done (Request c) ok = by (o.latest <? c) refl
    where
      by : (b : Bool) → (o.latest <? c) ≡ b
          → Way s o x r (Request c)
          ((if b then sends (LeaseGrant c) else says "silent")
          leaving at_reading r (store_all (if b then deadline (r + O s) ∷ latest c ∷ [] else []) o))
      by true less =
          granting c (leb-false _ _ (none_applies (request_refusals s o x r c) ok refl 4)) (ltb-true _ _ less)
          (request_accepted s o x r c ok).2
      by false _ = idle c
  done (Cut c k) ok = cutting c k (stored s o r c k)
  done (Check ts) ok =
      let fine = none_applies (check_refusals s o x r ts) ok refl in
      acking ts (leb-false _ _ (fine 4)) (known_counter s o (not-false _ (fine 2)))
      (ltb-false _ _ (neither_holds (bad_reading (last_reading_of o) r) (top_reading <? ts) (fine 3)).1)

  pub way : (event : ObserverEvent) → Way s o x r event (step_of s o x r event)
  unfolding step_of
  way event = either_way (refusals_of s o x r event) o _ (Way s o x r event) (λ _. refusing event _) (done event)

  -- what is sent has its form
  pub observer_formed : (event : ObserverEvent) (m : Message) → sent (step_of s o x r event).answer ≡ message m → has_form m ≡ true
  unfolding sent has_form
  observer_formed event m = by (way event)
    where
      by : {event : ObserverEvent} {out : Outcome Observer} → Way s o x r event out → sent out.answer ≡ message m
          → has_form m ≡ true
      by (refusing _ k) e = nothing_is_no_message e
      by (granting c _ less top) e =
          rw (← (same_message e)) (holds_both (le-leb 1 c (omega (arith, less))) (le-leb c top_counter top))
      by (idle c) e = nothing_is_no_message e
      by (cutting c k _) e = nothing_is_no_message e
      by (acking ts _ known top) e =
          rw (← (same_message e)) (holds_both (le-leb ts top_reading top) (le-leb o.latest top_counter known))
