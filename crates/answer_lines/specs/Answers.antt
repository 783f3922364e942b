-- The line of an answer (rules 7.6 and 7.7): its number, then its words and values. Words and numbers are parted and ended as in
-- message lines.
use Rattle.std.specs.Prelude.{ℕ, suc, List, [], ◌∷◌, ◌++◌, map, ℤ, pos, negsuc}
use Rattle.words.specs.Lists.{text}
use Rattle.words.specs.Said.{Said, number}
use Rattle.words.specs.Said.Said.{refusal, gives}
use Rattle.decimals.specs.Decimals.{digits}
use Rattle.settings.specs.declared.Settings.{Settings}
use Rattle.settings.specs.declared.Accepted.{Accepted}
use Rattle.settings.specs.Answers.{judged}
use Rattle.messages.specs.Answers.{Spoken, spoken_fields}
use Rattle.lines_rules.specs.Writing.{bytes_of, joined}

-- a step's answer
unfoldable pub answer_line : Said Spoken → List ℕ
answer_line answer = joined (digits (number answer) ∷ map bytes_of (spoken_fields answer))

-- a number that may be below zero; the slacks of accepted settings are not
unfoldable pub signed : ℤ → List ℕ
signed (pos n) = digits n
signed (negsuc n) = text "-" ++ digits (suc n)

-- the settings' answer: W and the slacks, or the values behind a refusal
unfoldable pub value_fields : Said Accepted → List (List ℕ)
value_fields (refusal k values) = map digits values
value_fields (gives v) = digits v.window ∷ signed v.slacks.a ∷ signed v.slacks.b ∷ signed v.slacks.c ∷ []

unfoldable pub settings_answer : Settings → List ℕ
settings_answer s = joined (digits (number (judged s)) ∷ value_fields (judged s))
