-- What it says that a step of the standby was not refused, and the ways that an ack or a poll can go.
use Prim.Native.Nat.{ℕ, ◌≤◌, ◌<◌}
use mathlib.Core.Path.{◌≡◌, refl}
use mathlib.Core.Bool.{true, false, ◌||◌, not}
use mathlib.Core.List.{List}
use lib.ListN.{get_or}
use borrow.Author.Tests.{eqb-true, eq-eqb, ltb-false, le-ltb, leb-false, lt-leb, not-false}
use Rattle.words.specs.Tests.{◌=?◌, ◌<?◌}
use Rattle.words.specs.Said.{first}
use Rattle.words.proofs.Booleans.{neither_holds, whether}
use Rattle.words.proofs.Said.{none_applies}
use Rattle.settings.specs.declared.Settings.{Settings}
use Rattle.settings.specs.Settings.{n, in_range, negative, slack_a, slack_b, slack_c, refusals, refusal_of}
use Rattle.messages.specs.Messages.{top_counter, top_reading}
use Rattle.quorums.specs.Quorums.{closes}
use Rattle.messages.specs.declared.Status.{Status}
use Rattle.messages.specs.Answers.{says}
use Rattle.messages.specs.Outcomes.{Outcome, ◌leaving◌, bad_reading}
use Rattle.standby_rules.specs.declared.Place.{Place}
use Rattle.standby_rules.specs.declared.Standby.{Standby}
use Rattle.standby_rules.specs.Standby.{has_form, has_open_round, last_reading_of, begin_refusals, ack_refusals, poll_refusals, is_late, closed, at_reading, kept_marks, keeping, verdict, after_keeping, ack_event, poll_event}

-- settings, record and reading that no step refuses
pub record Admitted (s : Settings) (q : Standby) (r : ℕ) : Type 0 where
  pub settings : refusal_of s ≡ 0
  pub formed : has_form s q ≡ true
  pub in_range_lem : r ≤ top_reading
  pub no_fall : last_reading_of q ≤ r

-- an ack that is not refused: it comes from one of the n observers, to the open round
pub record Counted (s : Settings) (q : Standby) (r x ts cnt : ℕ) : Type 0 where
  pub admitted : Admitted s q r
  pub observer : x < n s
  pub counter : cnt ≤ top_counter
  pub open_round : has_open_round q ≡ true
  pub its_ts : ts ≡ q.ts

settings_pass : (s : Settings) → not (in_range s) ≡ false
    → (negative (slack_a s) || negative (slack_b s) || negative (slack_c s)) ≡ false → refusal_of s ≡ 0
unfolding refusal_of first
settings_pass s a b = rw (a, b)

admits : (s : Settings) (q : Standby) (r : ℕ) → refusal_of s ≡ 0 → not (has_form s q) ≡ false
    → bad_reading (last_reading_of q) r ≡ false
    → Admitted s q r
admits s q r settings formed reading =
    let bounds = neither_holds (top_reading <? r) (r <? last_reading_of q) reading in
    record {
      settings = settings;
      formed = not-false (has_form s q) formed;
      in_range_lem = ltb-false top_reading r bounds.0;
      no_fall = ltb-false r (last_reading_of q) bounds.1;
    }

pub begin_admitted : (s : Settings) (q : Standby) (r : ℕ) → first (begin_refusals s q r) ≡ 0 → Admitted s q r
begin_admitted s q r e =
    let passed = none_applies (begin_refusals s q r) e refl in
    admits s q r (settings_pass s (passed 0) (passed 1)) (passed 2) (passed 3)

pub poll_admitted : (s : Settings) (q : Standby) (r : ℕ) → first (poll_refusals s q r) ≡ 0 → Admitted s q r × (has_open_round q ≡ true)
poll_admitted s q r e =
    let passed = none_applies (poll_refusals s q r) e refl in
    (admits s q r (settings_pass s (passed 0) (passed 1)) (passed 2) (passed 3), not-false (has_open_round q) (passed 4))

pub ack_counted : (s : Settings) (q : Standby) (r x ts cnt : ℕ) → first (ack_refusals s q r x ts cnt) ≡ 0
    → Counted s q r x ts cnt
ack_counted s q r x ts cnt e =
    let passed = none_applies (ack_refusals s q r x ts cnt) e refl in
    let reading = neither_holds (bad_reading (last_reading_of q) r) (top_reading <? ts) (passed 3) in
    record {
      admitted = admits s q r (settings_pass s (passed 0) (passed 1)) (passed 2) reading.0;
      observer = leb-false (n s) x (passed 4);
      counter = ltb-false top_counter cnt (passed 5);
      open_round = not-false (has_open_round q) (passed 6);
      its_ts = eqb-true ts q.ts (not-false (ts =? q.ts) (passed 7));
    }

-- and the other way round
pub begin_passes : (s : Settings) (q : Standby) (r : ℕ) → Admitted s q r → first (begin_refusals s q r) ≡ 0
unfolding refusal_of first
begin_passes s q r a =
    let fine = none_applies (refusals s) a.settings refl in
    rw (fine 0, fine 1, a.formed, le-ltb top_reading r a.in_range_lem, le-ltb r (last_reading_of q) a.no_fall)

pub ack_passes : (s : Settings) (q : Standby) (r x ts cnt : ℕ) → Counted s q r x ts cnt → ts ≤ top_reading
    → first (ack_refusals s q r x ts cnt) ≡ 0
unfolding refusal_of first
ack_passes s q r x ts cnt c in_range_lem =
    let a = c.admitted in
    let fine = none_applies (refusals s) a.settings refl in
    let last = le-ltb r (last_reading_of q) a.no_fall in
    let round = eq-eqb ts q.ts c.its_ts in
    let read = le-ltb top_reading r a.in_range_lem in
    let number = le-ltb top_counter cnt c.counter in
    let observer = lt-leb (n s) x c.observer in
    rw (fine 0, fine 1, a.formed, read, last, le-ltb top_reading ts in_range_lem, observer, number, c.open_round, round)

-- the open round with these places
abbrev pub kept_open : Standby → (r : ℕ) → List Place → Standby
kept_open q r places = record { open_flag = has_open_round q; ts = q.ts; last_reading = r; places = places }

-- the ways of an ack that is not refused: late, a second one, the one that closes the round, or a first one that does not
pub record AckWays (w : ℕ) (s : Settings) (q : Standby) (r x cnt : ℕ) (status : Status)
    (Q : Outcome Standby → Type 0) : Type 0 where
  pub late : is_late w q r ≡ true → Q (says "late" leaving closed r)
  pub second : is_late w q r ≡ false → get_or (kept_marks q.places) x false ≡ true → Q (says "waiting" leaving at_reading r q)
  pub closing : is_late w q r ≡ false → get_or (kept_marks q.places) x false ≡ false
      → closes s (kept_marks (keeping x cnt status q.places)) ≡ true
      → Q (verdict (keeping x cnt status q.places) leaving closed r)
  pub waiting : is_late w q r ≡ false → get_or (kept_marks q.places) x false ≡ false
      → closes s (kept_marks (keeping x cnt status q.places)) ≡ false
      → Q (says "waiting" leaving kept_open q r (keeping x cnt status q.places))

pub each_ack : (w : ℕ) (s : Settings) (q : Standby) (r x cnt : ℕ) (status : Status) (Q : Outcome Standby → Type 0)
    → AckWays w s q r x cnt status Q → Q (ack_event w s q r x cnt status)
unfolding ack_event after_keeping
each_ack w s q r x cnt status Q ways =
    whether Q (is_late w q r) ways.late (λ early.
    whether Q (get_or (kept_marks q.places) x false) (ways.second early) (λ first.
    whether Q (closes s (kept_marks (keeping x cnt status q.places))) (ways.closing early first)
    (ways.waiting early first)))

pub each_poll : (w : ℕ) (q : Standby) (r : ℕ) (Q : Outcome Standby → Type 0)
    → (is_late w q r ≡ true → Q (says "late" leaving closed r))
    → (is_late w q r ≡ false → Q (says "waiting" leaving at_reading r q)) → Q (poll_event w q r)
unfolding poll_event
each_poll w q r Q late early = whether Q (is_late w q r) late early
