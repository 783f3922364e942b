-- The recorder's record, its form, and what each step answers and leaves.
use Rattle.std.specs.Prelude.{ℕ, ◌+◌, ◌-◌, Bool, true, false, ◌&&◌, ◌||◌, not, List, [], ◌∷◌, ◌++◌, map, length, take, drop, get_or, set, replicate, if◌then◌else◌}
use Rattle.words.specs.Tests.{◌<?◌, ◌≤?◌, ◌=?◌}
use Rattle.words.specs.Lists.{every}
use Rattle.words.specs.Said.{Said, Refusal, ◌when◌}
use Rattle.settings.specs.declared.Settings.{Settings}
use Rattle.settings.specs.Settings.{n, η, P, most_observers, most_leases, refusals}
use Rattle.quorums.specs.Quorums.{survives}
use Rattle.messages.specs.declared.Message.TheVariants.{LeaseRequest}
use Rattle.messages.specs.Messages.{top_counter, top_reading}
use Rattle.messages.specs.Answers.{Spoken, sends as sending, says}
use Rattle.messages.specs.Outcomes.{Outcome, ◌leaving◌, unless_refused, bad_reading}
use Rattle.recorder_rules.specs.declared.Recorder.{Recorder}
use Rattle.recorder_rules.specs.declared.RecorderEvent.{RecorderEvent}
use Rattle.recorder_rules.specs.declared.RecorderEvent.TheVariants.{Tick, Grant, Drive}

-- ---- Record

abbrev pub last_send_of : Recorder → ℕ
last_send_of rec = rec.last_send

abbrev pub last_reading_of : Recorder → ℕ
last_reading_of rec = rec.last_reading

abbrev pub open_lease_count : Recorder → ℕ
open_lease_count rec = rec.open_leases

-- the send readings of the open leases, oldest first
abbrev pub leases : Recorder → List ℕ
leases rec = take (open_lease_count rec) rec.sends

-- the number of the oldest: the open leases carry the last numbers up to the counter
abbrev pub oldest : Recorder → ℕ
oldest rec = rec.counter - open_lease_count rec + 1

-- the observers that have granted `number` or higher
abbrev pub granted : Recorder → (number : ℕ) → List Bool
granted rec number = map (λ grant. number ≤? grant) rec.grants

-- ---- Form

abbrev pub is_zero : ℕ → Bool
is_zero x = x =? 0

-- each at least η after the one before it
unfoldable pub spaced : (apart : ℕ) → List ℕ → Bool
spaced apart [] = true
spaced apart (x ∷ []) = true
spaced apart (x ∷ (y ∷ zs)) = (apart ≤? y - x) && spaced apart (y ∷ zs)

-- all but the last reading is 0
abbrev pub all_zero : Recorder → Bool
all_zero rec =
    is_zero rec.stopped && is_zero rec.counter && is_zero (last_send_of rec) && is_zero (open_lease_count rec)
    && every is_zero rec.sends && every is_zero rec.grants

-- each open lease is younger than P at the last reading
abbrev pub young : Settings → Recorder → Bool
young s rec = every (λ send. last_reading_of rec - send <? P s) (leases rec)

unfoldable pub form : Settings → Recorder → List Bool
form s rec =
    (rec.counter ≤? top_counter)
    ∷ (rec.stopped ≤? 1)
    ∷ (not (is_zero rec.counter) || all_zero rec)
    ∷ every is_zero (drop (open_lease_count rec) rec.sends)
    ∷ every is_zero (drop (n s) rec.grants)
    ∷ every (λ grant. grant ≤? rec.counter) rec.grants
    ∷ (is_zero rec.counter || (1 ≤? open_lease_count rec))
    ∷ (open_lease_count rec ≤? most_leases)
    ∷ (open_lease_count rec ≤? rec.counter)
    ∷ spaced (η s) (leases rec)
    ∷ (is_zero rec.counter || (get_or rec.sends (open_lease_count rec - 1) 0 =? last_send_of rec))
    ∷ (rec.counter - 1 ≤? last_send_of rec)
    ∷ (last_send_of rec ≤? last_reading_of rec)
    ∷ (last_reading_of rec ≤? top_reading)
    ∷ (not (is_zero rec.stopped) || young s rec)
    ∷ []

unfoldable pub has_form : Settings → Recorder → Bool
has_form s rec = every (λ condition. condition) (form s rec)

-- ---- Refusals, in the table's order

abbrev pub step_refusals : Settings → Recorder → (r : ℕ) → List Refusal
step_refusals s rec r = refusals s ++ (3 when not (has_form s rec) ∷ 4 when bad_reading (last_reading_of rec) r ∷ [])

abbrev pub grant_refusals : Settings → Recorder → (r x j : ℕ) → List Refusal
grant_refusals s rec r x j =
    step_refusals s rec r ++ (5 when (n s ≤? x) ∷ 6 when (is_zero j || (rec.counter <? j)) ∷ [])

-- ---- Every accepted step

-- rule 3.5
abbrev pub has_ended : Settings → (r send : ℕ) → Bool
has_ended s r send = P s ≤? r - send

-- rule 3.6: some ended lease, of those numbered from i on, lacks the grants of the next number
unfoldable pub lacking_from : Settings → Recorder → (r i : ℕ) → List ℕ → Bool
lacking_from s rec r i [] = false
lacking_from s rec r i (send ∷ sends) =
    (has_ended s r send && not (survives s (granted rec (i + 1)))) || lacking_from s rec r (i + 1) sends

unfoldable pub lacking : Settings → Recorder → (r : ℕ) → Bool
lacking s rec r = lacking_from s rec r (oldest rec) (leases rec)

-- rule 3.7: those that have not ended
unfoldable pub kept : Settings → (r : ℕ) → List ℕ → List ℕ
kept s r [] = []
kept s r (send ∷ sends) = if has_ended s r send then kept s r sends else send ∷ kept s r sends

-- open leases in their places, unused ones 0
abbrev pub placed : List ℕ → List ℕ
placed sends = sends ++ replicate (most_leases - length sends) 0

-- the last reading is r, and the ended leases are gone
unfoldable pub advanced : Settings → Recorder → (r : ℕ) → Recorder
advanced s rec r =
    record {
      stopped = rec.stopped;
      counter = rec.counter;
      last_send = last_send_of rec;
      last_reading = r;
      open_leases = length (kept s r (leases rec));
      sends = placed (kept s r (leases rec));
      grants = rec.grants;
    }

-- rule 3.6: only the flag and the last reading change
abbrev pub halted : Recorder → (r : ℕ) → Recorder
halted rec r =
    record {
      stopped = 1;
      counter = rec.counter;
      last_send = last_send_of rec;
      last_reading = r;
      open_leases = open_lease_count rec;
      sends = rec.sends;
      grants = rec.grants;
    }

-- stopped first, then ended leases, only then the event
unfoldable pub accepted : Settings → Recorder → (r : ℕ) → (event : Recorder → Outcome Recorder) → Outcome Recorder
accepted s rec r event =
    if not (is_zero rec.stopped) then says "stopped" leaving rec
    else (if lacking s rec r then says "stopped" leaving halted rec r
    else event (advanced s rec r))

-- ---- Events

-- t observers have granted 1 or higher
unfoldable pub registered : Settings → Recorder → Bool
registered s rec = survives s (granted rec 1)

-- rule 3.11
unfoldable pub standing : Settings → Recorder → Said Spoken
standing s rec = if registered s rec then says "running" else says "unregistered"

-- rule 3.8: at the first tick, and η after the last send
abbrev pub due : Settings → Recorder → (r : ℕ) → Bool
due s rec r = is_zero rec.counter || (η s ≤? r - last_send_of rec)

-- rule 3.8: one more open lease
abbrev pub requesting : Recorder → (r : ℕ) → Recorder
requesting rec r =
    record {
      stopped = rec.stopped;
      counter = rec.counter + 1;
      last_send = r;
      last_reading = last_reading_of rec;
      open_leases = open_lease_count rec + 1;
      sends = placed (leases rec ++ (r ∷ []));
      grants = rec.grants;
    }

unfoldable pub tick_event : Settings → (r : ℕ) → Recorder → Outcome Recorder
tick_event s r rec =
    if due s rec r then sending (LeaseRequest (rec.counter + 1)) leaving requesting rec r
    else standing s rec leaving rec

-- the greater of two numbers
abbrev pub higher : ℕ → ℕ → ℕ
higher j k = if j <? k then k else j

-- rule 3.9: the place of x keeps the greater number
abbrev pub granting : Recorder → (x j : ℕ) → Recorder
granting rec x j =
    record {
      stopped = rec.stopped;
      counter = rec.counter;
      last_send = last_send_of rec;
      last_reading = last_reading_of rec;
      open_leases = open_lease_count rec;
      sends = rec.sends;
      grants = set rec.grants x (higher (get_or rec.grants x 0) j);
    }

unfoldable pub grant_event : Settings → (x j : ℕ) → Recorder → Outcome Recorder
grant_event s x j rec = standing s (granting rec x j) leaving granting rec x j

-- drive: nothing
unfoldable pub drive_event : Settings → Recorder → Outcome Recorder
drive_event s rec = standing s rec leaving rec

-- ---- Steps

-- an event's table of refusals, and what it does once the ended leases are gone
abbrev pub refusals_of : Settings → Recorder → (r : ℕ) → RecorderEvent → List Refusal
refusals_of s rec r Tick = step_refusals s rec r
refusals_of s rec r (Grant x j) = grant_refusals s rec r x j
refusals_of s rec r Drive = step_refusals s rec r

abbrev pub event_of : Settings → (r : ℕ) → RecorderEvent → Recorder → Outcome Recorder
event_of s r Tick = tick_event s r
event_of s r (Grant x j) = grant_event s x j
event_of s r Drive = drive_event s

unfoldable pub step_of : Settings → Recorder → (r : ℕ) → RecorderEvent → Outcome Recorder
step_of s rec r event = unless_refused (refusals_of s rec r event) rec (accepted s rec r (event_of s r event))

-- all is 0 at first
abbrev pub fresh : Recorder
fresh =
    record {
      stopped = 0;
      counter = 0;
      last_send = 0;
      last_reading = 0;
      open_leases = 0;
      sends = replicate most_leases 0;
      grants = replicate most_observers 0;
    }
