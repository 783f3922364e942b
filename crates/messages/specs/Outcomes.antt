-- What a step leaves: what its answer says, and the record.
use Rattle.std.specs.Prelude.{ℕ, Bool, ◌||◌, List, if◌then◌else◌}
use Rattle.words.specs.Tests.{◌<?◌, ◌=?◌}
use Rattle.words.specs.Said.{Said, Refusal, first}
use Rattle.messages.specs.Messages.{top_reading}
use Rattle.messages.specs.declared.Stepped.{Stepped}
use Rattle.messages.specs.Answers.{Spoken, refuses, said}

pub record Outcome (R : Type 0) : Type 0 where
  pub answer : Said Spoken
  pub rec : R

infix 15 ◌leaving◌
abbrev pub ◌leaving◌ : {R : Type 0} → Said Spoken → R → Outcome R
answer leaving rec = record { answer = answer; rec = rec }

-- what a step's result says
abbrev pub outcome : {R : Type 0} → Stepped R → Outcome R
outcome done = said done.answer leaving done.rec

-- rule 2.2: the first line of the table that applies, or the step.
unfoldable pub unless_refused : {R : Type 0} → List Refusal → R → Outcome R → Outcome R
unless_refused table rec step = if first table =? 0 then step else refuses (first table) leaving rec

-- rule 2.4: out of range, or below the last
abbrev pub bad_reading : (last r : ℕ) → Bool
bad_reading last r = (top_reading <? r) || (r <? last)
