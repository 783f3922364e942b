-- What each answer of a step says: the refusal's number with the values behind it; or the message to be sent, or none, and a word
-- with its values, or none.
use Rattle.std.specs.Prelude.{ℕ, Bool, true, false, List, [], ◌∷◌, ◌++◌, map, ◌≡◌, Result, Ok, Err}
use Prim.Native.String.{String}
use Rattle.words.specs.Lists.{text}
use Rattle.words.specs.Said.{Said, number as number_of, refused}
use Rattle.words.specs.Said.Said.{refusal, gives}
use Rattle.refusals.specs.declared.Refusal.{Refusal}
use Rattle.refusals.specs.Refusals.{number_of as number_of_refusal}
use Rattle.messages.specs.declared.Message.{Message}
use Rattle.messages.specs.declared.Word.{Word}
use Rattle.messages.specs.declared.Word.TheVariants.{Unregistered, Running, Stopped, Silent, Cut, Waiting, Late, Unknown, Dead, Alive}
use Rattle.messages.specs.declared.Answer.{Answer}
use Rattle.messages.specs.declared.Answer.TheVariants.{Send, Say}
use Rattle.messages.specs.Messages.{Field, fields_of}
use Rattle.messages.specs.Messages.Field.{word, number}

-- The message to be sent, or none.
pub data Sending : Type 0 where
  nothing : Sending
  message : Message → Sending

-- What an answer gives behind its 0: what is sent, and the word with its values, if one is said.
pub data Spoken : Type 0 where
  giving : Sending → List Field → Spoken

abbrev pub refuses : ℕ → Said Spoken
refuses k = refused k

abbrev pub sends : Message → Said Spoken
sends m = gives (giving (message m) [])

abbrev pub speaks : List Field → Said Spoken
speaks words = gives (giving nothing words)

abbrev pub says : String → Said Spoken
says w = speaks (word (text w) ∷ [])

abbrev pub says_of : String → ℕ → Said Spoken
says_of w m = speaks (word (text w) ∷ number m ∷ [])

unfoldable pub words_of : Word → List Field
words_of Unregistered = word (text "unregistered") ∷ []
words_of Running = word (text "running") ∷ []
words_of Stopped = word (text "stopped") ∷ []
words_of Silent = word (text "silent") ∷ []
words_of Cut = word (text "cut") ∷ []
words_of Waiting = word (text "waiting") ∷ []
words_of Late = word (text "late") ∷ []
words_of Unknown = word (text "unknown") ∷ []
words_of (Dead m) = word (text "dead") ∷ number m ∷ []
words_of (Alive m) = word (text "alive") ∷ number m ∷ []

unfoldable pub given : Answer → Said Spoken
given (Send m) = sends m
given (Say w) = speaks (words_of w)

unfoldable pub said : Result Answer Refusal → Said Spoken
said (Ok a) = given a
said (Err r) = refuses (number_of_refusal r)

-- the same with a number in the refusal's place, any number
unfoldable pub said_with : Result Answer ℕ → Said Spoken
said_with (Ok a) = given a
said_with (Err k) = refuses k

-- a refusal, whatever its number
unfoldable pub is_refusal : Said Spoken → Bool
is_refusal (refusal k values) = true
is_refusal (gives a) = false

-- what the answer sends
unfoldable pub sent : Said Spoken → Sending
sent (refusal k values) = nothing
sent (gives (giving sending words)) = sending

unfoldable pub sent_fields : Sending → List Field
sent_fields nothing = []
sent_fields (message m) = fields_of m

-- the words and numbers of an answer as they stand in its line, behind its number
unfoldable pub spoken_fields : Said Spoken → List Field
spoken_fields (refusal k values) = map number values
spoken_fields (gives (giving sending words)) = sent_fields sending ++ words

-- Number, words and values together tell all answers apart, whatever number a refusal has, and so those of the ten refusals.
pub record AnswersToldApart : Type 0 where
  pub any_number : (a a' : Result Answer ℕ) → number_of (said_with a) ≡ number_of (said_with a')
      → spoken_fields (said_with a) ≡ spoken_fields (said_with a')
      → a ≡ a'
  pub refusals : (a a' : Result Answer Refusal) → number_of (said a) ≡ number_of (said a')
      → spoken_fields (said a) ≡ spoken_fields (said a')
      → a ≡ a'
