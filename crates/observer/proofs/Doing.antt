-- A plan that is done is the step of the rules: its stores are those that the rules list, all of them or the first few of a
-- cut.
use Rattle.std.specs.Prelude.{if◌then◌else◌, Result}
use Prim.Native.Nat.{ℕ, ◌+◌, ◌≤◌}
use mathlib.Core.Path.{◌≡◌, refl, sym, ap}
use mathlib.Core.Bool.{Bool, true, false}
use mathlib.Core.List.{[]}
use lib.ListN.{take}
use lib.Seq.{take-nil}
use Rattle.words.specs.Tests.{◌<?◌, ◌=?◌}
use Rattle.words.specs.Said.{Said, first, refused}
use Rattle.words.specs.Said.Said.{refusal, gives}
use Rattle.refusals.specs.declared.Refusal.{Refusal}
use Rattle.settings.specs.declared.Settings.{Settings}
use Rattle.settings.specs.Settings.{O, refusal_of}
use Rattle.messages.specs.Messages.{top_reading}
use Rattle.messages.specs.Answers.{refuses}
use Rattle.messages.specs.Outcomes.{Outcome, ◌leaving◌, unless_refused}
use Rattle.observer_rules.specs.declared.Observer.{Observer}
use Rattle.observer_rules.specs.declared.ObserverEvent.{ObserverEvent}
use Rattle.observer_rules.specs.declared.ObserverEvent.TheVariants.{Request, Cut, Check}
use Rattle.observer_rules.specs.Observer.{at_reading, store_all, stores, stores_of, refusals_of, answer_of, reading_after, step_of}
use Rattle.observer_rules.proofs.Laws.{request_accepted, cut_accepted, check_accepted}
use Rattle.observer.specs.declared.Plan.{Plan}
use Rattle.observer.specs.Plan.{Planned, how_many, new_latest, planned, plan_of, accepting}
use Rattle.observer.specs.Parts.{in_order}

-- what doing a plan says and leaves: a refusal writes nothing (rule 2.2), any other does its stores and then sets the last
-- reading
abbrev pub done : Said Planned → Observer → Outcome Observer
done (refusal k values) o = refusal k values leaving o
done (gives p) o = p.answer leaving at_reading p.reading (store_all (take p.stores (in_order p.deadline p.latest)) o)

module _ (s : Settings) (o : Observer) (x r : ℕ) where
  -- what a step that is not refused knows of its inputs, whatever its event
  pub accepted : (event : ObserverEvent) → first (refusals_of s o x r event) ≡ 0 → (refusal_of s ≡ 0) × (r ≤ top_reading)
  accepted (Request c) e = let fine = request_accepted s o x r c e in (fine.0, fine.1)
  accepted (Cut c k) e = let fine = cut_accepted s o x r c k e in (fine.0, fine.1)
  accepted (Check ts) e = check_accepted s o x r ts e

  -- the stores that a plan counts are those of the rules
  pub its_stores : (event : ObserverEvent) → take (how_many o event) (in_order (r + O s) (new_latest event)) ≡ stores_of s o r event
  unfolding how_many new_latest stores_of stores
  its_stores (Request c) = by (o.latest <? c)
    where
      by : (b : Bool) → take (if b then 2 else 0) (in_order (r + O s) c) ≡ (if b then in_order (r + O s) c else [])
      by true = refl
      by false = refl
  its_stores (Cut c k) = by (o.latest <? c)
    where
      by : (b : Bool) → take (if b then k else 0) (in_order (r + O s) c) ≡ take k (if b then in_order (r + O s) c else [])
      by true = refl
      by false = sym (take-nil k)
  its_stores (Check ts) = refl

  pub plan_done : (event : ObserverEvent) → done (plan_of s o x r event) o ≡ step_of s o x r event
  unfolding plan_of step_of unless_refused
  plan_done event = by (first (refusals_of s o x r event) =? 0)
    where
      k : ℕ
      k = first (refusals_of s o x r event)

      by : (b : Bool)
          → done (if b then gives (accepting s o r event) else refused k) o
          ≡ (if b then answer_of o r event leaving at_reading (reading_after r event) (store_all (stores_of s o r event) o)
          else refuses k leaving o)
      by true = ap (λ list. answer_of o r event leaving at_reading (reading_after r event) (store_all list o)) (its_stores event)
      by false = refl

-- as code has it: the plan is the one that was made
pub step_done : (s : Settings) (o : Observer) (x r : ℕ) (event : ObserverEvent) (p : Result Plan Refusal) → planned p ≡ plan_of s o x r event
    → done (planned p) o ≡ step_of s o x r event
step_done s o x r event p e = rw (← e) at (plan_done s o x r event)
