-- Values on either side of each limit: what the definitions give, beside what the customer's paper writes.
use Rattle.std.specs.Prelude.{ℕ, List, [], ◌∷◌, map, true, ◌≡◌, ℤ, pos, negsuc, set}
use Prim.Native.String.{String}
use Rattle.words.specs.Lists.{text}
use Rattle.words.specs.Said.{Said, number as number_of}
use Rattle.settings.specs.declared.Settings.{Settings}
use Rattle.settings.specs.Settings.{settings, usual, slack_a, slack_b, slack_c, window, refusal_of}
use Rattle.messages.specs.declared.Status.{Status}
use Rattle.messages.specs.declared.Status.TheVariants.{Alive, Dead}
use Rattle.messages.specs.Messages.{Field}
use Rattle.messages.specs.Messages.Field.{word, number}
use Rattle.messages.specs.Answers.{Spoken, spoken_fields}
use Rattle.observer_rules.specs.declared.Observer.{Observer}
use Rattle.observer_rules.specs.declared.ObserverEvent.TheVariants.{Request as request, Cut as cut, Check as check}
use Rattle.observer_rules.specs.Observer.{step_of}
use Rattle.standby_rules.specs.declared.Standby.{Standby}
use Rattle.standby_rules.specs.declared.StandbyEvent.TheVariants.{Ack}
use Rattle.standby_rules.specs.Standby.{no_places, step_of as standbyStep}

-- A row: what is found by the definitions, and what the paper writes. Whole numbers, since a slack may be below zero, and
-- fields of an answer's line.
pub record Row : Type 0 where
  pub found : List ℤ × List Field
  pub written : List ℤ × List Field

abbrev pub numbers : List ℤ → List ℤ → Row
numbers found written = record { found = (found, []); written = (written, []) }

-- an answer, as its line has it: the refusal's number or 0, then the fields
abbrev pub answers : Said Spoken → ℕ → List Field → Row
answers answer k fields =
    record { found = (pos (number_of answer) ∷ [], spoken_fields answer); written = (pos k ∷ [], fields) }

abbrev pub minus1 : ℤ
minus1 = negsuc 0

abbrev pub slacks : Settings → List ℤ
slacks s = slack_a s ∷ slack_b s ∷ slack_c s ∷ pos (refusal_of s) ∷ []

abbrev pub observer : (latest deadline last : ℕ) → Observer
observer latest deadline last = record { latest = latest; deadline = deadline; last_reading = last }

abbrev pub stored : Observer → List ℤ
stored o = pos o.latest ∷ pos o.deadline ∷ []

-- a round begun at 1000 in which observer 0 has answered
abbrev pub round : (cnt : ℕ) → Status → Standby
round cnt status =
    record {
      open_flag = true;
      ts = 1000;
      last_reading = 1010;
      places = set no_places 0 (record { kept = true; counter = cnt; status = status });
    }

-- the ack of observer 1 that is the last one
abbrev pub last_ack : Standby → (r cnt : ℕ) → Status → Said Spoken
last_ack q r cnt status = (standbyStep usual q r (Ack 1 1000 cnt status)).answer

abbrev pub one : String → List Field
one w = word (text w) ∷ []

abbrev pub with_m : String → ℕ → List Field
with_m w m = word (text w) ∷ number m ∷ []

abbrev pub ack : (ts cnt : ℕ) → String → List Field
ack ts cnt status = word (text "CHECK-ACK") ∷ number ts ∷ number cnt ∷ word (text status) ∷ []

unfoldable pub rows : List Row
rows =
    -- P = 158: slacks -1, 1, 6242, refused 2. O = 234: b = -1, refused 2.
    numbers (slacks (settings 3 2 100 40 158 235 10)) (minus1 ∷ pos 1 ∷ pos 6242 ∷ pos 2 ∷ [])
    ∷ numbers (slacks (settings 3 2 100 40 159 234 10)) (pos 0 ∷ minus1 ∷ pos 6241 ∷ pos 2 ∷ [])
    -- η 100, Δ 49, P 150, O 200, G 1: slacks 0, 1, 6250, W 50. Δ 50: a = -1, refused 2.
    ∷ numbers (slacks (settings 3 2 100 49 150 200 1)) (pos 0 ∷ pos 1 ∷ pos 6250 ∷ pos 0 ∷ [])
    ∷ numbers (pos (window (settings 3 2 100 49 150 200 1)) ∷ []) (pos 50 ∷ [])
    ∷ numbers (slacks (settings 3 2 100 50 150 200 1)) (minus1 ∷ pos 0 ∷ pos 6250 ∷ pos 2 ∷ [])
    -- t = 0: refused 1, also when a slack is negative.
    ∷ numbers (pos (refusal_of (settings 3 0 100 40 159 235 10)) ∷ []) (pos 1 ∷ [])
    ∷ numbers (pos (refusal_of (settings 3 0 100 40 158 235 10)) ∷ []) (pos 1 ∷ [])
    -- Deadline 1235: Alive at 1234, Dead at 1235.
    ∷ answers (step_of usual (observer 1 1235 1000) 0 1234 (check 1200)).answer 0 (ack 1200 1 "Alive")
    ∷ answers (step_of usual (observer 1 1235 1000) 0 1235 (check 1200)).answer 0 (ack 1200 1 "Dead")
    -- Latest 5, request 5: silent.
    ∷ answers (step_of usual (observer 5 1235 1000) 0 1100 (request 5)).answer 0 (one "silent")
    -- Request 4 kept, request 5 at 2000 cut after one store: latest 4, deadline 2235.
    ∷ answers (step_of usual (observer 4 2135 1900) 0 2000 (cut 5 1)).answer 0 (one "cut")
    ∷ numbers (stored (step_of usual (observer 4 2135 1900) 0 2000 (cut 5 1)).rec) (pos 4 ∷ pos 2235 ∷ [])
    -- Round ts 1000, last ack at 1049: counted. At 1050: late.
    ∷ answers (last_ack (round 7 Alive) 1049 7 Alive) 0 (with_m "alive" 7)
    ∷ answers (last_ack (round 7 Alive) 1050 7 Alive) 0 (one "late")
    -- Kept Dead 7, Alive 7: dead 7. Dead 6, Alive 7: alive 7. Both 0: unknown.
    ∷ answers (last_ack (round 7 Dead) 1049 7 Alive) 0 (with_m "dead" 7)
    ∷ answers (last_ack (round 6 Dead) 1049 7 Alive) 0 (with_m "alive" 7)
    ∷ answers (last_ack (round 0 Dead) 1049 0 Alive) 0 (one "unknown")
    ∷ []

-- In every row what is found is what is written.
abbrev pub AsWritten : Type 0
AsWritten = map (λ row. row.found) rows ≡ map (λ row. row.written) rows
