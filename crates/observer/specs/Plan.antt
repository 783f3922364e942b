-- The plan of a step: what the rules of an observer (4.4 to 4.7) ask of it, before any of it is done. Both forms of the step do
-- the same plan; that a plan done is the step of the rules is proved in proofs/Doing.antt.
use Rattle.std.specs.Prelude.{ℕ, ◌+◌, if◌then◌else◌, Result, Ok, Err}
use Rattle.words.specs.Tests.{◌<?◌, ◌=?◌}
use Rattle.words.specs.Said.{Said, first, refused}
use Rattle.words.specs.Said.Said.{gives}
use Rattle.refusals.specs.declared.Refusal.{Refusal}
use Rattle.refusals.specs.Refusals.{number_of}
use Rattle.settings.specs.declared.Settings.{Settings}
use Rattle.settings.specs.Settings.{O}
use Rattle.messages.specs.Answers.{Spoken, given}
use Rattle.observer_rules.specs.declared.Observer.{Observer}
use Rattle.observer_rules.specs.declared.ObserverEvent.{ObserverEvent}
use Rattle.observer_rules.specs.declared.ObserverEvent.TheVariants.{Request, Cut, Check}
use Rattle.observer_rules.specs.Observer.{refusals_of, answer_of, reading_after}
use Rattle.observer.specs.declared.Plan.{Plan}

-- how many of the two stores are done: none if the request would be silent (rule 4.4), and none of a check
unfoldable pub how_many : Observer → ObserverEvent → ℕ
how_many o (Request c) = if o.latest <? c then 2 else 0
how_many o (Cut c k) = if o.latest <? c then k else 0
how_many o (Check ts) = 0

-- what the second of them stores
unfoldable pub new_latest : ObserverEvent → ℕ
new_latest (Request c) = c
new_latest (Cut c k) = c
new_latest (Check ts) = 0

-- A plan in the words of the rules: the answer; how many stores are done, and what they store; and the last reading.
pub record Planned : Type 0 where
  pub answer : Said Spoken
  pub stores : ℕ
  pub deadline : ℕ
  pub latest : ℕ
  pub reading : ℕ

-- the plan, or the refusal's number
abbrev pub planned : Result Plan Refusal → Said Planned
planned (Ok p) =
    gives
    (record {
      answer = given p.answer;
      stores = p.stores;
      deadline = p.deadline;
      latest = p.latest;
      reading = p.last_reading;
    })
planned (Err r) = refused (number_of r)

abbrev pub accepting : Settings → Observer → (r : ℕ) → ObserverEvent → Planned
accepting s o r event =
    record {
      answer = answer_of o r event;
      stores = how_many o event;
      deadline = r + O s;
      latest = new_latest event;
      reading = reading_after r event;
    }

-- of a refusal there is nothing to do
unfoldable pub plan_of : Settings → Observer → (x r : ℕ) → ObserverEvent → Said Planned
plan_of s o x r event =
    if first (refusals_of s o x r event) =? 0 then gives (accepting s o r event)
    else refused (first (refusals_of s o x r event))
