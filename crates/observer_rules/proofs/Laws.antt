-- Laws of the observer's record and steps: the claims of specs/Claims.antt, each by the steps' events.
use Rattle.std.specs.Prelude.{if◌then◌else◌}
use Prim.Native.Nat.{ℕ, zero, suc, ◌+◌, ◌≤◌, ◌<◌}
use native.Mathlib.Omega.{arith}
use mathlib.Core.Path.{◌≡◌, refl, sym}
use mathlib.Core.Bool.{Bool, true, false, ◌||◌, not}
use mathlib.Core.List.{[], ◌∷◌}
use lib.ListN.{take, get_or}
use lib.Seq.{take-nil, take_all}
use borrow.Author.Tests.{ltb-true, ltb-false, leb-true, le-leb, le-ltb, ne_eqb}
use Rattle.words.specs.Tests.{◌<?◌, ◌=?◌}
use Rattle.words.specs.Lists.{every}
use Rattle.words.specs.Said.{first}
use Rattle.words.proofs.Booleans.{neither_holds}
use Rattle.words.proofs.Conditions.{every_anywhere}
use Rattle.words.proofs.Said.{none_applies}
use Rattle.settings.specs.declared.Settings.{Settings}
use Rattle.settings.specs.Settings.{O, refusal_of}
use Rattle.settings.proofs.Laws.{accepted_in_range}
use Rattle.messages.specs.declared.Status.TheVariants.{Alive, Dead}
use Rattle.messages.specs.declared.Message.TheVariants.{LeaseGrant}
use Rattle.messages.specs.Messages.{top_counter, top_reading}
use Rattle.messages.specs.Answers.{refuses, sends, says}
use Rattle.messages.specs.Outcomes.{Outcome, ◌leaving◌}
use Rattle.messages.proofs.Outcomes.{either_way, never_refused_with, refused_is_not_given, word_is_no_message}
use Rattle.observer_rules.specs.declared.Observer.{Observer}
use Rattle.observer_rules.specs.Observer.{at_reading, form, has_form, request_refusals, cut_refusals, check_refusals, store, store_all, stores, stores_of, status_at, answer_of, refusals_of, reading_after, restart_of, step_of}
use Rattle.observer_rules.specs.declared.ObserverEvent.{ObserverEvent as Event}
use Rattle.observer_rules.specs.Observer.Store.{deadline, latest}
use Rattle.observer_rules.specs.declared.ObserverEvent.TheVariants.{Request as request, Cut as cut, Check as check}
use Rattle.observer_rules.specs.Claims.{FormIsKept, LatestNeverFalls, DeadlineFirst, GrantIsStored, DeadFromDeadline}

-- ---- What the stores of a request, all or the first k, do to each field

-- the record after the first k stores: nothing, the deadline, or both
pub data Stored (s : Settings) (o : Observer) (r c : ℕ) : Observer → Type 0 where
  unchanged : Stored s o r c o
  deadline_alone : o.latest < c → Stored s o r c (store (deadline (r + O s)) o)
  both : o.latest < c → Stored s o r c (store (latest c) (store (deadline (r + O s)) o))

pub stored : (s : Settings) (o : Observer) (r c k : ℕ) → Stored s o r c (store_all (take k (stores s o r c)) o)
unfolding stores store_all
stored s o r c k = by (o.latest <? c) refl k
  where
    by : (b : Bool) → (o.latest <? c) ≡ b → (k : ℕ) → Stored s o r c (store_all (take k (stores s o r c)) o)
    by b e zero = unchanged
    by false e (suc k) = rw e unchanged
    by true e (suc zero) = rw e (deadline_alone (ltb-true _ _ e))
    by true e (suc (suc zero)) = rw e (both (ltb-true _ _ e))
    by true e (suc (suc (suc k))) = rw e (both (ltb-true _ _ e))

-- two stores, or more, are all of them
pub all_of_them : (s : Settings) (o : Observer) (r c k : ℕ) → 2 ≤ k → take k (stores s o r c) ≡ stores s o r c
unfolding stores
all_of_them s o r c k h = by (o.latest <? c) refl
  where
    by : (b : Bool) → (o.latest <? c) ≡ b → take k (stores s o r c) ≡ stores s o r c
    by false e = rw e (take-nil k)
    by true e = rw e (take_all k _ h)

all_stored : (s : Settings) (o : Observer) (r c : ℕ) → Stored s o r c (store_all (stores s o r c) o)
all_stored s o r c = rw (all_of_them s o r c 2 (omega arith)) at (stored s o r c 2)

-- ---- What a step that is not refused knows of its inputs

reading_fine : (last r : ℕ) → ((top_reading <? r) || (r <? last)) ≡ false → r ≤ top_reading
reading_fine last r e = ltb-false _ _ (neither_holds (top_reading <? r) (r <? last) e).0

counter_fine : (c : ℕ) → ((c =? 0) || (top_counter <? c)) ≡ false → c ≤ top_counter
counter_fine c e = ltb-false _ _ (neither_holds (c =? 0) (top_counter <? c) e).1

pub request_accepted : (s : Settings) (o : Observer) (x r c : ℕ) → first (request_refusals s o x r c) ≡ 0
    → (refusal_of s ≡ 0) × (r ≤ top_reading) × (c ≤ top_counter)
unfolding refusal_of first
request_accepted s o x r c e =
    let fine = none_applies (request_refusals s o x r c) e refl in
    (rw (fine 0, fine 1), reading_fine _ _ (fine 3), counter_fine _ (fine 5))

pub cut_accepted : (s : Settings) (o : Observer) (x r c k : ℕ) → first (cut_refusals s o x r c k) ≡ 0
    → (refusal_of s ≡ 0) × (r ≤ top_reading) × (c ≤ top_counter)
unfolding refusal_of first
cut_accepted s o x r c k e =
    let fine = none_applies (cut_refusals s o x r c k) e refl in
    (rw (fine 0, fine 1), reading_fine _ _ (fine 3), counter_fine _ (fine 5))

pub check_accepted : (s : Settings) (o : Observer) (x r ts : ℕ) → first (check_refusals s o x r ts) ≡ 0
    → (refusal_of s ≡ 0) × (r ≤ top_reading)
unfolding refusal_of first
check_accepted s o x r ts e =
    let fine = none_applies (check_refusals s o x r ts) e refl in
    (rw (fine 0, fine 1), reading_fine _ _ (neither_holds _ _ (fine 3)).0)

-- ---- What any step leaves: the record as it came, or some of a request's stores and a last reading

pub data Leaves (s : Settings) (o : Observer) (r : ℕ) : Observer → Type 0 where
  as_it_came : Leaves s o r o
  altered : (c last : ℕ) {o' : Observer} → refusal_of s ≡ 0 → r ≤ top_reading → c ≤ top_counter → last ≤ top_reading
      → Stored s o r c o' → Leaves s o r (at_reading last o')

pub leaves : (s : Settings) (o : Observer) (x r : ℕ) (event : Event) → Leaves s o r (step_of s o x r event).rec
unfolding step_of stores_of reading_after store_all
leaves s o x r event = either_way (refusals_of s o x r event) o _ (λ out. Leaves s o r out.rec) (λ _. as_it_came) (done event)
  where
    done : (event : Event) → first (refusals_of s o x r event) ≡ 0
        → Leaves s o r (at_reading (reading_after r event) (store_all (stores_of s o r event) o))
    done (request c) e =
        let fine = request_accepted s o x r c e in altered c r fine.0 fine.1 fine.2 fine.1 (all_stored s o r c)
    done (cut c k) e =
        let fine = cut_accepted s o x r c k e in altered c 0 fine.0 fine.1 fine.2 (omega arith) (stored s o r c k)
    done (check ts) e =
        let fine = check_accepted s o x r ts e in altered 0 r fine.0 fine.1 (omega arith) fine.1 unchanged

-- ---- The claims

pub latest_never_falls_lem : LatestNeverFalls
unfolding store
latest_never_falls_lem s o x r event = by (leaves s o x r event)
  where
    by : {o' : Observer} → Leaves s o r o' → o.latest ≤ o'.latest
    by as_it_came = omega arith
    by (altered c last _ _ _ _ unchanged) = omega arith
    by (altered c last _ _ _ _ (deadline_alone h)) = omega arith
    by (altered c last _ _ _ _ (both h)) = omega arith

pub deadline_first_lem : DeadlineFirst
unfolding store
deadline_first_lem s o x r event = by (leaves s o x r event)
  where
    by : {o' : Observer} → Leaves s o r o' → (o'.latest ≡ o.latest → ⊥) → o'.deadline ≡ r + O s
    by as_it_came new = absurd (new refl)
    by (altered c last _ _ _ _ unchanged) new = absurd (new refl)
    by (altered c last _ _ _ _ (deadline_alone h)) new = absurd (new refl)
    by (altered c last _ _ _ _ (both h)) new = refl

pub dead_from_deadline_lem : DeadFromDeadline
unfolding status_at
dead_from_deadline_lem o r = (by (r <? o.deadline) refl, λ h. rw (le-ltb r o.deadline h))
  where
    by : (b : Bool) → (r <? o.deadline) ≡ b → status_at o r ≡ Dead → o.deadline ≤ r
    by true e dead = let alive : Alive ≡ Dead = rw e at dead in let z : ◌≡◌ {A = ℕ} 0 1 = cc in omega arith
    by false e dead = ltb-false _ _ e

-- what GrantIsStored says of an outcome
abbrev IsStored : Settings → (r c : ℕ) → Outcome Observer → Type 0
IsStored s r c out = out.answer ≡ sends (LeaseGrant c) → (out.rec.latest ≡ c) × (out.rec.deadline ≡ r + O s)

pub grant_is_stored_lem : GrantIsStored
unfolding step_of answer_of stores_of reading_after stores store_all store
grant_is_stored_lem s o x r event c =
    either_way (refusals_of s o x r event) o _ (IsStored s r c) (λ _ e. refused_is_not_given e) (λ _. done event)
  where
    by : (c' : ℕ) (b : Bool)
        → IsStored s r c
        ((if b then sends (LeaseGrant c') else says "silent")
        leaving at_reading r (store_all (if b then deadline (r + O s) ∷ latest c' ∷ [] else []) o))
    by c' true e = (cc, refl)
    by c' false e = word_is_no_message e

    done : (event : Event)
        → IsStored s r c (answer_of o r event leaving at_reading (reading_after r event) (store_all (stores_of s o r event) o))
    done (request c') e = by c' (o.latest <? c') e
    done (cut c' k) e = word_is_no_message e
    done (check ts) e = let z : ◌≡◌ {A = ℕ} 0 1 = cc in omega arith

-- ---- The form

-- each condition of the form
form_of : (s : Settings) (o : Observer) → has_form s o ≡ true → (i : ℕ) → get_or (form s o) i true ≡ true
unfolding has_form
form_of s o e = every_anywhere (λ condition. condition) true refl (form s o) e

pub known_counter : (s : Settings) (o : Observer) → has_form s o ≡ true → o.latest ≤ top_counter
unfolding form
known_counter s o e = leb-true _ _ (form_of s o e 0)

-- a last reading in range keeps the form
at_reading_lem : (s : Settings) (o : Observer) (r : ℕ) → r ≤ top_reading → has_form s o ≡ true → has_form s (at_reading r o) ≡ true
unfolding has_form form
at_reading_lem s o r h e =
    let f = form_of s o e in rw (f 0, f 1, f 2, le-leb r top_reading h)

-- so does a deadline that an accepted request stores
with_deadline : (s : Settings) (o : Observer) (r : ℕ) → refusal_of s ≡ 0 → r ≤ top_reading → has_form s o ≡ true
    → has_form s (store (deadline (r + O s)) o) ≡ true
unfolding has_form form store
with_deadline s o r fine h e =
    let f = form_of s o e in
    let range = accepted_in_range s fine in
    let least = le-leb (O s) (r + O s) (omega arith) in
    let greatest = le-leb (r + O s) (top_reading + O s) (omega arith) in
    rw (f 0, ne_eqb (r + O s) 0 (λ z. omega arith), least, greatest, f 3)

-- and behind it the new latest
with_latest : (s : Settings) (o : Observer) (c : ℕ) → (o.deadline ≡ 0 → ⊥) → c ≤ top_counter → has_form s o ≡ true
    → has_form s (store (latest c) o) ≡ true
unfolding has_form form store
with_latest s o c nonzero h e =
    let f = form_of s o e in rw (le-leb c top_counter h, f 1, ne_eqb o.deadline 0 nonzero, f 3)

form_by_steps : (s : Settings) (o : Observer) (x r : ℕ) (event : Event) → has_form s o ≡ true
    → has_form s (step_of s o x r event).rec ≡ true
unfolding store
form_by_steps s o x r event e = by (leaves s o x r event)
  where
    by : {o' : Observer} → Leaves s o r o' → has_form s o' ≡ true
    by as_it_came = e
    by (altered c last fine h k l unchanged) = at_reading_lem s o last l e
    by (altered c last fine h k l (deadline_alone new)) = at_reading_lem s _ last l (with_deadline s o r fine h e)
    by (altered c last fine h k l (both new)) =
        let range = accepted_in_range s fine in
        at_reading_lem s _ last l (with_latest s _ c (λ z. omega arith) k (with_deadline s o r fine h e))

-- and then no step is refused with 3
no_three : (s : Settings) (o : Observer) (x r : ℕ) (event : Event) → has_form s o ≡ true
    → (step_of s o x r event).answer ≡ refuses 3 → ⊥
unfolding step_of answer_of
no_three s o x r event has =
    never_refused_with (refusals_of s o x r event) o _ 3 (λ z. omega arith) (lines event) (given event)
  where
    lines : (event : Event) → every (λ r. not (r.no =? 3) || not r.applies) (refusals_of s o x r event) ≡ true
    lines (request c) = rw has
    lines (cut c k) = rw has
    lines (check ts) = rw has

    answers : (c : ℕ) (b : Bool) → (if b then sends (LeaseGrant c) else says "silent") ≡ refuses 3 → ⊥
    answers c true e = refused_is_not_given (sym e)
    answers c false e = refused_is_not_given (sym e)

    given : (event : Event) → answer_of o r event ≡ refuses 3 → ⊥
    given (request c) e = answers c (o.latest <? c) e
    given (cut c k) e = refused_is_not_given (sym e)
    given (check ts) e = refused_is_not_given (sym e)

pub form_is_kept_lem : FormIsKept
unfolding has_form form restart_of
form_is_kept_lem =
    record {
      at_first = λ s. refl;
      by_steps = form_by_steps;
      by_restarts = λ s o e. at_reading_lem s o 0 (omega arith) e;
      no_three = no_three;
    }
