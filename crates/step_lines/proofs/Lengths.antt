-- How long a line of the forms is at least: a settings line 23 bytes, of which 14 are needed here, a step line 9. Assumes
-- nothing.
use Rattle.std.specs.Prelude.{Result, Ok, Err, Option, Some, None, if◌then◌else◌, option_and_then, option_map}
use Prim.Native.Nat.{ℕ, zero, suc, ◌+◌, ◌*◌, ◌≤◌, ◌<◌}
use native.Mathlib.Omega.{arith}
use mathlib.Core.Path.{◌≡◌, refl, sym, ap, ◌∙◌}
use mathlib.Core.Bool.{true}
use mathlib.Core.List.{List}
use lib.ListN.{length, drop, length-append, length-drop}
use borrow.Author.Tests.{eqb-true}
use Rattle.words.specs.Tests.{◌=?◌}
use Rattle.words.specs.Lists.{text}
use Rattle.words.proofs.Booleans.{both_hold, whether}
use Rattle.settings.specs.declared.Settings.{Settings}
use Rattle.decimals.specs.declared.Number.{Number}
use Rattle.decimals.specs.declared.NoNumber.{NoNumber}
use Rattle.decimals.specs.Decimals.{number_at}
use Rattle.fields.specs.Places.{begins, is_exactly}
use Rattle.decimals.proofs.Digits.{digits_some}
use Rattle.decimals.proofs.Reading.{read_digits}
use Rattle.fields.proofs.Rooms.{front}
use Rattle.standby_rules.specs.declared.StandbyEvent.{StandbyEvent}
use Rattle.step_lines.specs.declared.Row.{Row}
use Rattle.step_lines.specs.declared.StepLine.TheVariants.{Recorder, Observer, Standby}
use Rattle.step_lines.specs.Rows.{greatest_number, with_number, extended, row_begun, row}
use Rattle.step_lines.specs.Reading.{at, behind_row, closed_by, last_numbers, settings_numbers, settings_line, recorder_event, recorder_numbers, observer_event, observer_numbers, ack_numbers, standby_event, standby_numbers, step_line}
use Rattle.step_lines.proofs.Rows.{tab_within, number_within}

-- ---- words and rows

pub front_length : (word s : List ℕ) → begins word s ≡ true → length word + length (drop (length word) s) ≡ length s
front_length word s e = sym (ap length (front word s e) ∙ length-append word (drop (length word) s))

pub exact_length : (word s : List ℕ) → is_exactly word s ≡ true → length s ≡ length word
unfolding is_exactly
exact_length word s e = eqb-true (length s) (length word) (both_hold (begins word s) (length s =? length word) e).1

-- each number of a row takes two bytes at least, all of them within the line
abbrev pub Long : {n : ℕ} → List ℕ → (count : ℕ) → Option (Row n) → Type 0
Long s count None = Unit
Long s count (Some r) = (2 * count ≤ r.behind) × (r.behind ≤ length s)

longer : {n : ℕ} (s : List ℕ) (count : ℕ) (r : Row n) → 2 * count ≤ r.behind → r.behind < length s
    → (v : Result Number NoNumber) → number_at true greatest_number (drop (r.behind + 1) s) ≡ v
    → Long s (suc count) (with_number (r.behind + 1) count r v)
unfolding with_number
longer s count r two tab (Ok number) e =
    let from = r.behind + 1 in
    let i = read_digits true greatest_number (drop from s) number.value number.length (omega arith) e in
    let some = digits_some number.value (omega (arith, i.most)) in
    let most = number_within (drop from s) number.value number.length e in
    let left = length-drop from s in
    (omega (arith, i.count), omega arith)
longer s count r two tab (Err missing) e = tt

one_longer : {n : ℕ} (s : List ℕ) (count : ℕ) (o : Option (Row n)) → Long s count o
    → Long s (suc count) (option_and_then (λ r. extended s r count) o)
unfolding extended
one_longer s count None h = tt
one_longer s count (Some r) h =
    whether (Long s (suc count)) (begins (text "\t") (drop r.behind s))
    (λ t. longer s count r h.0 (tab_within s r.behind t) (number_at true greatest_number (drop (r.behind + 1) s)) refl)
    (λ t. tt)

begun_long : (all : ℕ) (s : List ℕ) (count : ℕ) → Long s count (row_begun all s count)
unfolding row_begun
begun_long all s zero = (omega arith, omega arith)
begun_long all s (suc count) = one_longer s count (row_begun all s count) (begun_long all s count)

pub row_long : (s : List ℕ) (count : ℕ) → Long s count (row s count)
unfolding row
row_long s count = begun_long count s count

-- ---- step lines

-- how long a line is at least that is read so
abbrev pub needed : {A : Type 0} → Option A → ℕ
needed None = 0
needed (Some a) = 9

needed_most : {A : Type 0} (line : Option A) → needed line ≤ 9
needed_most None = omega arith
needed_most (Some a) = omega arith

-- the event with its party and reading needs no more than the event
same_needed : {A B : Type 0} (f : A → B) (event : Option A) → needed (option_map f event) ≡ needed event
same_needed f None = refl
same_needed f (Some a) = refl

-- one of several words: each is long enough by itself, and else nothing is read
exactly : {A : Type 0} (count : ℕ) (word s : List ℕ) (line other : Option A) → 9 ≤ count + length word → (needed other ≤ count + length s)
    → needed (if is_exactly word s then line else other) ≤ count + length s
exactly count word s line other w o =
    whether (λ l. needed l ≤ count + length s) (is_exactly word s)
    (λ e. omega (arith, exact_length word s e, needed_most line)) (λ e. o)

beginning : {A : Type 0} (count : ℕ) (word s : List ℕ) (line other : Option A) → 9 ≤ count + length word → (needed other ≤ count + length s)
    → needed (if begins word s then line else other) ≤ count + length s
beginning count word s line other w o =
    whether (λ l. needed l ≤ count + length s) (begins word s)
    (λ e. omega (arith, front_length word s e, needed_most line)) (λ e. o)

recorder_event_lem : (s : List ℕ) → needed (recorder_event s) ≤ 3 + length s
unfolding recorder_event
recorder_event_lem s =
    exactly 3 (text "\ttick\n") s _ _ (omega arith)
    (exactly 3 (text "\tdrive\n") s _ _ (omega arith)
    (beginning 3 (text "\tgrant") s _ _ (omega arith) (omega arith)))

observer_event_lem : (s : List ℕ) → needed (observer_event s) ≤ 3 + length s
unfolding observer_event
observer_event_lem s =
    beginning 3 (text "\trequest") s _ _ (omega arith)
    (beginning 3 (text "\tcheck") s _ _ (omega arith) (omega arith))

-- an ack ends in its status
closed_length : {n : ℕ} (word s : List ℕ) (v : Row n) → closed_by word s v ≡ true → length word ≤ length s
unfolding closed_by
closed_length word s v e = omega (arith, exact_length word (behind_row s v) e, length-drop v.behind s)

ack_numbers_lem : (s : List ℕ) (v : Option (Row 3)) → needed (ack_numbers s v) ≤ 3 + length s
unfolding ack_numbers
ack_numbers_lem s None = omega arith
ack_numbers_lem s (Some v) =
    whether (λ (l : Option StandbyEvent). needed l ≤ 3 + length s) (closed_by (text "\tAlive\n") s v)
    (λ e. omega (arith, closed_length (text "\tAlive\n") s v e))
    (λ e.
    whether (λ (l : Option StandbyEvent). needed l ≤ 3 + length s) (closed_by (text "\tDead\n") s v)
    (λ e. omega (arith, closed_length (text "\tDead\n") s v e)) (λ e. omega arith))

standby_event_lem : (s : List ℕ) → needed (standby_event s) ≤ 3 + length s
unfolding standby_event
standby_event_lem s =
    exactly 3 (text "\tbegin\n") s _ _ (omega arith)
    (exactly 3 (text "\tpoll\n") s _ _ (omega arith)
    (whether (λ (l : Option StandbyEvent). needed l ≤ 3 + length s) (begins (text "\tack") s)
    (λ e. omega (arith, ack_numbers_lem (drop 4 s) (row (drop 4 s) 3), length-drop 4 s)) (λ e. omega arith)))

-- behind a row of one number or more
recorder_numbers_lem : (s : List ℕ) (v : Option (Row 1)) → Long s 1 v → needed (recorder_numbers s v) ≤ 1 + length s
unfolding recorder_numbers
recorder_numbers_lem s None h = omega arith
recorder_numbers_lem s (Some v) h =
    omega (arith, h.0, h.1, length-drop v.behind s, same_needed (Recorder (at v 0)) (recorder_event (behind_row s v)), recorder_event_lem (behind_row s v))

observer_numbers_lem : (s : List ℕ) (v : Option (Row 2)) → Long s 2 v → needed (observer_numbers s v) ≤ 1 + length s
unfolding observer_numbers
observer_numbers_lem s None h = omega arith
observer_numbers_lem s (Some v) h =
    omega (arith, h.0, h.1, length-drop v.behind s, same_needed (Observer (at v 0) (at v 1)) (observer_event (behind_row s v)), observer_event_lem (behind_row s v))

standby_numbers_lem : (s : List ℕ) (v : Option (Row 1)) → Long s 1 v → needed (standby_numbers s v) ≤ 1 + length s
unfolding standby_numbers
standby_numbers_lem s None h = omega arith
standby_numbers_lem s (Some v) h =
    omega (arith, h.0, h.1, length-drop v.behind s, same_needed (Standby (at v 0)) (standby_event (behind_row s v)), standby_event_lem (behind_row s v))

-- a letter before it
lettered : {A : Type 0} (letter s : List ℕ) (line other : Option A) → length letter ≡ 1 → needed line ≤ 1 + length (drop 1 s)
    → needed other ≤ length s
    → needed (if begins letter s then line else other) ≤ length s
lettered letter s line other one h o =
    whether (λ l. needed l ≤ length s) (begins letter s)
    (λ e. omega (arith, h, length-drop 1 s, one, front_length letter s e)) (λ e. o)

pub step_line_length : (s : List ℕ) → needed (step_line s) ≤ length s
unfolding step_line
step_line_length s =
    let t = drop 1 s in
    lettered (text "R") s _ _ refl (recorder_numbers_lem t (row t 1) (row_long t 1))
    (lettered (text "O") s _ _ refl (observer_numbers_lem t (row t 2) (row_long t 2))
    (lettered (text "Q") s _ _ refl (standby_numbers_lem t (row t 1) (row_long t 1))
    (omega arith)))

-- ---- the settings line

abbrev pub needed_first : Option Settings → ℕ
needed_first None = 0
needed_first (Some s) = 14

settings_numbers_lem : (s : List ℕ) (v : Option (Row 7)) → Long s 7 v → needed_first (settings_numbers s v) ≤ length s
unfolding settings_numbers last_numbers
settings_numbers_lem s None h = omega arith
settings_numbers_lem s (Some v) h =
    whether (λ l. needed_first l ≤ length s) (closed_by (text "\n") s v)
    (λ c. omega (arith, h.0, h.1)) (λ c. omega arith)

pub settings_line_length : (s : List ℕ) → needed_first (settings_line s) ≤ length s
unfolding settings_line
settings_line_length s =
    let t = drop 8 s in
    whether (λ l. needed_first l ≤ length s) (begins (text "SETTINGS") s)
    (λ e. omega (arith, settings_numbers_lem t (row t 7) (row_long t 7), length-drop 8 s))
    (λ e. omega arith)
