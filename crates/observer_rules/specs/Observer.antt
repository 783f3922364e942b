-- The observer's record, its form, and what each step answers and leaves. The stores of a request are a list, so that a cut
-- is its first k.
use Rattle.std.specs.Prelude.{ℕ, ◌+◌, Bool, ◌&&◌, ◌||◌, not, List, [], ◌∷◌, ◌++◌, take, if◌then◌else◌}
use Rattle.words.specs.Tests.{◌<?◌, ◌≤?◌, ◌=?◌}
use Rattle.words.specs.Lists.{every}
use Rattle.words.specs.Said.{Said, Refusal, ◌when◌}
use Rattle.settings.specs.declared.Settings.{Settings}
use Rattle.settings.specs.Settings.{n, O, refusals}
use Rattle.messages.specs.declared.Status.{Status}
use Rattle.messages.specs.declared.Status.TheVariants.{Alive, Dead}
use Rattle.messages.specs.declared.Message.TheVariants.{LeaseGrant, CheckAck}
use Rattle.messages.specs.Messages.{top_counter, top_reading}
use Rattle.messages.specs.Answers.{Spoken, sends, says}
use Rattle.messages.specs.Outcomes.{Outcome, ◌leaving◌, unless_refused, bad_reading}
use Rattle.observer_rules.specs.declared.Observer.{Observer}
use Rattle.observer_rules.specs.declared.ObserverEvent.{ObserverEvent}
use Rattle.observer_rules.specs.declared.ObserverEvent.TheVariants.{Request, Cut, Check}

-- ---- Record

abbrev pub last_reading_of : Observer → ℕ
last_reading_of o = o.last_reading

-- the record with another last reading
abbrev pub at_reading : ℕ → Observer → Observer
at_reading r o = record { latest = o.latest; deadline = o.deadline; last_reading = r }

-- ---- Form

unfoldable pub form : Settings → Observer → List Bool
form s o =
    (o.latest ≤? top_counter)
    ∷ ((o.deadline =? 0) || ((O s ≤? o.deadline) && (o.deadline ≤? top_reading + O s)))
    ∷ (not (o.deadline =? 0) || (o.latest =? 0))
    ∷ (last_reading_of o ≤? top_reading)
    ∷ []

unfoldable pub has_form : Settings → Observer → Bool
has_form s o = every (λ condition. condition) (form s o)

-- ---- Refusals, in the table's order. x is the observer's own number.

-- 1 to 5, which every step has; `bad` is the step's own condition of 4
abbrev pub shared_refusals : Settings → Observer → (x : ℕ) → (bad : Bool) → List Refusal
shared_refusals s o x bad = refusals s ++ (3 when not (has_form s o) ∷ 4 when bad ∷ 5 when (n s ≤? x) ∷ [])

abbrev pub request_refusals : Settings → Observer → (x r c : ℕ) → List Refusal
request_refusals s o x r c =
    shared_refusals s o x (bad_reading (last_reading_of o) r) ++ (6 when ((c =? 0) || (top_counter <? c)) ∷ [])

-- and a cut above 2
abbrev pub cut_refusals : Settings → Observer → (x r c k : ℕ) → List Refusal
cut_refusals s o x r c k = request_refusals s o x r c ++ (9 when (2 <? k) ∷ [])

-- where 4 covers the ts too
abbrev pub check_refusals : Settings → Observer → (x r ts : ℕ) → List Refusal
check_refusals s o x r ts = shared_refusals s o x (bad_reading (last_reading_of o) r || (top_reading <? ts))

-- ---- Stores

pub data Store : Type 0 where
  deadline : ℕ → Store
  latest : ℕ → Store

unfoldable pub store : Store → Observer → Observer
store (deadline d) o = record { latest = o.latest; deadline = d; last_reading = last_reading_of o }
store (latest c) o = record { latest = c; deadline = o.deadline; last_reading = last_reading_of o }

-- one after the other
unfoldable pub store_all : List Store → Observer → Observer
store_all [] o = o
store_all (first ∷ rest) o = store_all rest (store first o)

-- rule 4.4: the deadline, then latest; a request that is not above latest has none
unfoldable pub stores : Settings → Observer → (r c : ℕ) → List Store
stores s o r c = if o.latest <? c then deadline (r + O s) ∷ latest c ∷ [] else []

-- the stores that an accepted step does, in their order: of a cut request the first k, of a check none
unfoldable pub stores_of : Settings → Observer → (r : ℕ) → ObserverEvent → List Store
stores_of s o r (Request c) = stores s o r c
stores_of s o r (Cut c k) = take k (stores s o r c)
stores_of s o r (Check ts) = []

-- ---- Answers

-- Alive before the deadline, else Dead
unfoldable pub status_at : Observer → (r : ℕ) → Status
status_at o r = if r <? o.deadline then Alive else Dead

unfoldable pub answer_of : Observer → (r : ℕ) → ObserverEvent → Said Spoken
answer_of o r (Request c) = if o.latest <? c then sends (LeaseGrant c) else says "silent"
answer_of o r (Cut c k) = says "cut"
answer_of o r (Check ts) = sends (CheckAck ts o.latest (status_at o r))

-- ---- Steps

abbrev pub refusals_of : Settings → Observer → (x r : ℕ) → ObserverEvent → List Refusal
refusals_of s o x r (Request c) = request_refusals s o x r c
refusals_of s o x r (Cut c k) = cut_refusals s o x r c k
refusals_of s o x r (Check ts) = check_refusals s o x r ts

-- the last reading that a step leaves: a cut forgets it
unfoldable pub reading_after : (r : ℕ) → ObserverEvent → ℕ
reading_after r (Request c) = r
reading_after r (Cut c k) = 0
reading_after r (Check ts) = r

-- the stores, then the last reading
unfoldable pub step_of : Settings → Observer → (x r : ℕ) → ObserverEvent → Outcome Observer
step_of s o x r event =
    unless_refused (refusals_of s o x r event) o
    (answer_of o r event leaving at_reading (reading_after r event) (store_all (stores_of s o r event) o))

-- a restart forgets the last reading, and has no answer
unfoldable pub restart_of : Observer → Observer
restart_of o = at_reading 0 o

-- all is 0 at first
abbrev pub fresh : Observer
fresh = record { latest = 0; deadline = 0; last_reading = 0 }
