-- Answers are told apart by number, words and values: the answer can be found again from them.
use Rattle.std.specs.Prelude.{if◌then◌else◌}
use Prim.Native.Nat.{ℕ}
use Prim.Native.String.{String}
use mathlib.Core.Bool.{Bool, true, false, ◌&&◌}
use mathlib.Core.List.{List, [], ◌∷◌}
use mathlib.Core.Path.{◌≡◌, refl, sym, ap, ap₂, ◌∙◌}
use borrow.Author.Tests.{eqb-false}
use Rattle.std.specs.Prelude.{Result, Ok, Err}
use Rattle.words.specs.Tests.{◌=?◌}
use Rattle.words.specs.Lists.{text}
use Rattle.words.specs.Said.{Said, number as number_of}
use Rattle.words.specs.Said.Said.{refusal, gives}
use Rattle.refusals.specs.declared.Refusal.{Refusal}
use Rattle.refusals.specs.Refusals.{number_of as number_of_refusal}
use Rattle.refusals.proofs.Apart.{refusal_at, refusal_found}
use Rattle.messages.specs.declared.Status.{Status}
use Rattle.messages.specs.declared.Status.TheVariants.{Alive as AliveStatus, Dead as DeadStatus}
use Rattle.messages.specs.declared.Message.TheVariants.{LeaseRequest, LeaseGrant, Check, CheckAck}
use Rattle.messages.specs.declared.Answer.{Answer}
use Rattle.messages.specs.declared.Answer.TheVariants.{Send, Say}
use Rattle.messages.specs.declared.Word.TheVariants.{Unregistered, Running, Stopped, Silent, Cut, Waiting, Late, Unknown, Dead, Alive}
use Rattle.messages.specs.Messages.{Field, fields_of, status_word}
use Rattle.messages.specs.Messages.Field.{word, number}
use Rattle.messages.specs.Answers.{Sending, nothing, message, Spoken, giving, given, said, said_with, words_of, sent_fields, spoken_fields, AnswersToldApart}

same : List ℕ → List ℕ → Bool
same [] [] = true
same [] (y ∷ ys) = false
same (x ∷ xs) [] = false
same (x ∷ xs) (y ∷ ys) = (x =? y) && same xs ys

is : Field → String → Bool
is (word w) s = same w (text s)
is (number k) s = false

value : List Field → ℕ
value [] = 0
value (word w ∷ fields) = 0
value (number k ∷ fields) = k

rest : List Field → List Field
rest [] = []
rest (field ∷ fields) = fields

status : List Field → Status
status [] = DeadStatus
status (field ∷ fields) = if is field "Alive" then AliveStatus else DeadStatus

-- the answer with this number and these fields
answer_of : Field → List Field → Answer
answer_of field fields =
    if is field "LEASE-REQUEST" then Send (LeaseRequest (value fields))
    else (if is field "LEASE-GRANT" then Send (LeaseGrant (value fields))
    else (if is field "CHECK" then Send (Check (value fields))
    else (if is field "CHECK-ACK" then Send (CheckAck (value fields) (value (rest fields)) (status (rest (rest fields))))
    else (if is field "unregistered" then Say Unregistered
    else (if is field "running" then Say Running
    else (if is field "stopped" then Say Stopped
    else (if is field "silent" then Say Silent
    else (if is field "cut" then Say Cut
    else (if is field "waiting" then Say Waiting
    else (if is field "late" then Say Late
    else (if is field "unknown" then Say Unknown
    else (if is field "dead" then Say (Dead (value fields))
    else Say (Alive (value fields))))))))))))))

back : ℕ → List Field → Result Answer ℕ
back k [] = Err k
back k (field ∷ fields) = Ok (answer_of field fields)

found : (a : Result Answer ℕ) → back (number_of (said_with a)) (spoken_fields (said_with a)) ≡ a
unfolding back answer_of said_with given words_of spoken_fields sent_fields fields_of status_word number_of same is value rest status
found (Err k) = refl
found (Ok (Send (LeaseRequest cnt))) = refl
found (Ok (Send (LeaseGrant cnt))) = refl
found (Ok (Send (Check ts))) = refl
found (Ok (Send (CheckAck ts cnt AliveStatus))) = refl
found (Ok (Send (CheckAck ts cnt DeadStatus))) = refl
found (Ok (Say Unregistered)) = refl
found (Ok (Say Running)) = refl
found (Ok (Say Stopped)) = refl
found (Ok (Say Silent)) = refl
found (Ok (Say Cut)) = refl
found (Ok (Say Waiting)) = refl
found (Ok (Say Late)) = refl
found (Ok (Say Unknown)) = refl
found (Ok (Say (Dead m))) = refl
found (Ok (Say (Alive m))) = refl

told_apart : (a a' : Result Answer ℕ) → number_of (said_with a) ≡ number_of (said_with a')
    → spoken_fields (said_with a) ≡ spoken_fields (said_with a')
    → a ≡ a'
told_apart a a' n f = sym (found a) ∙ ap₂ back n f ∙ found a'

-- a refusal's number in its place, and the refusal of that number
numbered : Result Answer Refusal → Result Answer ℕ
numbered (Ok a) = Ok a
numbered (Err r) = Err (number_of_refusal r)

named : Result Answer ℕ → Result Answer Refusal
named (Ok a) = Ok a
named (Err k) = Err (refusal_at k)

same_said : (a : Result Answer Refusal) → said a ≡ said_with (numbered a)
unfolding said said_with numbered
same_said (Ok a) = refl
same_said (Err r) = refl

named_again : (a : Result Answer Refusal) → named (numbered a) ≡ a
unfolding named numbered
named_again (Ok a) = refl
named_again (Err r) = ap Err (refusal_found r)

of_refusals : (a a' : Result Answer Refusal) → number_of (said a) ≡ number_of (said a') → spoken_fields (said a) ≡ spoken_fields (said a')
    → a ≡ a'
of_refusals a a' n f =
    let same =
    told_apart
    (numbered a)
    (numbered a')
    (ap number_of (sym (same_said a)) ∙ n ∙ ap number_of (same_said a'))
    (ap spoken_fields (sym (same_said a)) ∙ f ∙ ap spoken_fields (same_said a')) in
    sym (named_again a) ∙ ap named same ∙ named_again a'

pub answers_told_apart_lem : AnswersToldApart
answers_told_apart_lem = record { any_number = told_apart; refusals = of_refusals }

-- what says the same is the same
pub said_apart : {a a' : Result Answer Refusal} → said a ≡ said a' → a ≡ a'
said_apart {a} {a'} e = of_refusals a a' (ap number_of e) (ap spoken_fields e)

-- the first byte of the word that is said; 0 for a refusal, 1 for a message
abbrev first_byte : Sending → List Field → ℕ
first_byte (message m) fields = 1
first_byte nothing [] = 0
first_byte nothing (number k ∷ fields) = 0
first_byte nothing (word [] ∷ fields) = 0
first_byte nothing (word (byte ∷ bytes) ∷ fields) = byte

abbrev pub initial : Said Spoken → ℕ
initial (refusal k values) = 0
initial (gives (giving sending words)) = first_byte sending words

-- answers that do not begin alike are not the same
pub says_other : {A : Type 0} (a b : Said Spoken) → (initial a =? initial b) ≡ false → a ≡ b → A
says_other a b differ e = absurd (eqb-false (initial a) (initial b) differ (ap initial e))
