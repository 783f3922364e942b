-- Rule 2.1: the number of each refusal, and what a result says that is a value or a refusal.
use Rattle.std.specs.Prelude.{ℕ, ◌≡◌, Result, Ok, Err}
use Rattle.words.specs.Said.{Said, refused}
use Rattle.words.specs.Said.Said.{gives}
use Rattle.refusals.specs.declared.Refusal.{Refusal}
use Rattle.refusals.specs.declared.Refusal.TheVariants.{OutOfRange, NegativeSlack, NoForm, BadReading, NoSuchObserver, BadCounter, NoRound, OtherRound, BadLine, WrongRoom}

-- the table of rules 2
abbrev pub number_of : Refusal → ℕ
number_of OutOfRange = 1
number_of NegativeSlack = 2
number_of NoForm = 3
number_of BadReading = 4
number_of NoSuchObserver = 5
number_of BadCounter = 6
number_of NoRound = 7
number_of OtherRound = 8
number_of BadLine = 9
number_of WrongRoom = 10

-- the refusal's number, or 0
abbrev pub number_in : {A : Type 0} → Result A Refusal → ℕ
number_in (Ok a) = 0
number_in (Err r) = number_of r

-- what is given, or the refusal's number
abbrev pub said_in : {A : Type 0} → Result A Refusal → Said A
said_in (Ok a) = gives a
said_in (Err r) = refused (number_of r)

-- a refusal as a number
abbrev pub Numbered : Refusal → ℕ → Type 0
Numbered r k = k ≡ number_of r

abbrev pub ToldApart : Type 0
ToldApart = (r r' : Refusal) → number_of r ≡ number_of r' → r ≡ r'
