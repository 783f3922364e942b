-- The standby's record, its form, and what each step answers and leaves. The window is a parameter: the public steps set it to W.
use Rattle.std.specs.Prelude.{ℕ, ◌-◌, Bool, true, false, ◌&&◌, ◌||◌, not, List, [], ◌∷◌, ◌++◌, map, drop, get_or, set, replicate, if◌then◌else◌}
use Rattle.words.specs.Tests.{◌<?◌, ◌≤?◌, ◌=?◌}
use Rattle.words.specs.Lists.{every, some}
use Rattle.words.specs.Said.{Said, Refusal, ◌when◌}
use Rattle.settings.specs.declared.Settings.{Settings}
use Rattle.settings.specs.Settings.{n, most_observers, window, refusals}
use Rattle.quorums.specs.Quorums.{closes}
use Rattle.messages.specs.declared.Status.{Status}
use Rattle.messages.specs.declared.Status.TheVariants.{Alive, Dead}
use Rattle.messages.specs.declared.Message.TheVariants.{Check}
use Rattle.messages.specs.Messages.{top_counter, top_reading}
use Rattle.messages.specs.Answers.{Spoken, sends, says, says_of}
use Rattle.messages.specs.Outcomes.{Outcome, ◌leaving◌, unless_refused, bad_reading}
use Rattle.standby_rules.specs.declared.Place.{Place}
use Rattle.standby_rules.specs.declared.Standby.{Standby}
use Rattle.standby_rules.specs.declared.StandbyEvent.{StandbyEvent}
use Rattle.standby_rules.specs.declared.StandbyEvent.TheVariants.{Begin, Ack, Poll}

-- ---- Record

abbrev pub has_open_round : Standby → Bool
has_open_round q = q.open_flag

abbrev pub last_reading_of : Standby → ℕ
last_reading_of q = q.last_reading

abbrev pub unused : Place
unused = record { kept = false; counter = 0; status = Alive }

abbrev pub no_places : List Place
no_places = replicate most_observers unused

-- the observers whose acks are kept
abbrev pub kept_marks : List Place → List Bool
kept_marks places = map (λ place. place.kept) places

-- a closed round: all 0 but the last reading
abbrev pub closed : (r : ℕ) → Standby
closed r = record { open_flag = false; ts = 0; last_reading = r; places = no_places }

-- the record with another last reading
abbrev pub at_reading : (r : ℕ) → Standby → Standby
at_reading r q = record { open_flag = has_open_round q; ts = q.ts; last_reading = r; places = q.places }

-- ---- Form

unfoldable pub is_dead : Status → Bool
is_dead Alive = false
is_dead Dead = true

-- nothing kept, all 0
unfoldable pub is_unused : Place → Bool
is_unused place = not place.kept && (place.counter =? 0) && not (is_dead place.status)

-- unused, or kept with a counter in range
unfoldable pub good_place : Place → Bool
good_place place = is_unused place || (place.kept && (place.counter ≤? top_counter))

unfoldable pub form : Settings → Standby → List Bool
form s q =
    (has_open_round q || ((q.ts =? 0) && every is_unused q.places))
    ∷ (not (has_open_round q) || (q.ts ≤? last_reading_of q))
    ∷ (last_reading_of q ≤? top_reading)
    ∷ not (closes s (kept_marks q.places))
    ∷ every good_place q.places
    ∷ every is_unused (drop (n s) q.places)
    ∷ []

unfoldable pub has_form : Settings → Standby → Bool
has_form s q = every (λ condition. condition) (form s q)

-- ---- Refusals, in the table's order

abbrev pub begin_refusals : Settings → Standby → (r : ℕ) → List Refusal
begin_refusals s q r = refusals s ++ (3 when not (has_form s q) ∷ 4 when bad_reading (last_reading_of q) r ∷ [])

abbrev pub ack_refusals : Settings → Standby → (r x ts cnt : ℕ) → List Refusal
ack_refusals s q r x ts cnt =
    refusals s
    ++ (3 when not (has_form s q)
    ∷ 4 when (bad_reading (last_reading_of q) r || (top_reading <? ts))
    ∷ 5 when (n s ≤? x)
    ∷ 6 when (top_counter <? cnt)
    ∷ 7 when not (has_open_round q)
    ∷ 8 when not (ts =? q.ts)
    ∷ [])

abbrev pub poll_refusals : Settings → Standby → (r : ℕ) → List Refusal
poll_refusals s q r = begin_refusals s q r ++ (7 when not (has_open_round q) ∷ [])

-- ---- Begin

-- a round opens, and any other is forgotten
abbrev pub opened : (r : ℕ) → Standby
opened r = record { open_flag = true; ts = r; last_reading = r; places = no_places }

unfoldable pub begin_event : (r : ℕ) → Outcome Standby
begin_event r = sends (Check r) leaving opened r

-- ---- Ack and poll

-- rule 5.5
abbrev pub is_late : (w : ℕ) → Standby → (r : ℕ) → Bool
is_late w q r = w <? r - q.ts

-- the place of a first ack
abbrev pub keeping : (x cnt : ℕ) → Status → List Place → List Place
keeping x cnt status places = set places x (record { kept = true; counter = cnt; status = status })

-- m, the greatest counter kept
unfoldable pub greatest : List Place → ℕ
greatest [] = 0
greatest (place ∷ places) =
    if place.kept && (greatest places <? place.counter) then place.counter else greatest places

-- the place says Dead with m
abbrev pub says_dead : (m : ℕ) → Place → Bool
says_dead m place = place.kept && is_dead place.status && (place.counter =? m)

-- rule 5.9: the greatest counter decides, never a count of statuses
unfoldable pub verdict : List Place → Said Spoken
verdict places =
    if greatest places =? 0 then says "unknown"
    else (if some (says_dead (greatest places)) places then says_of "dead" (greatest places)
    else says_of "alive" (greatest places))

-- with a query quorum of acks the round closes
unfoldable pub after_keeping : Settings → Standby → (r : ℕ) → List Place → Outcome Standby
after_keeping s q r places =
    if closes s (kept_marks places) then verdict places leaving closed r
    else says "waiting" leaving record { open_flag = has_open_round q; ts = q.ts; last_reading = r; places = places }

-- late and closed; or a second ack changes nothing; or a first one is kept
unfoldable pub ack_event : (w : ℕ) → Settings → Standby → (r x cnt : ℕ) → Status → Outcome Standby
ack_event w s q r x cnt status =
    if is_late w q r then says "late" leaving closed r
    else (if get_or (kept_marks q.places) x false then says "waiting" leaving at_reading r q
    else after_keeping s q r (keeping x cnt status q.places))

-- late and closed, by the same test; or the round goes on
unfoldable pub poll_event : (w : ℕ) → Standby → (r : ℕ) → Outcome Standby
poll_event w q r = if is_late w q r then says "late" leaving closed r else says "waiting" leaving at_reading r q

-- ---- Steps

abbrev pub refusals_of : Settings → Standby → (r : ℕ) → StandbyEvent → List Refusal
refusals_of s q r Begin = begin_refusals s q r
refusals_of s q r (Ack x ts cnt status) = ack_refusals s q r x ts cnt
refusals_of s q r Poll = poll_refusals s q r

abbrev pub event_within : (w : ℕ) → Settings → Standby → (r : ℕ) → StandbyEvent → Outcome Standby
event_within w s q r Begin = begin_event r
event_within w s q r (Ack x ts cnt status) = ack_event w s q r x cnt status
event_within w s q r Poll = poll_event w q r

-- within a window
unfoldable pub step_within : (w : ℕ) → Settings → Standby → (r : ℕ) → StandbyEvent → Outcome Standby
step_within w s q r event = unless_refused (refusals_of s q r event) q (event_within w s q r event)

-- the window is W
abbrev pub step_of : Settings → Standby → (r : ℕ) → StandbyEvent → Outcome Standby
step_of s = step_within (window s) s

-- all is 0 at first
abbrev pub fresh : Standby
fresh = closed 0
