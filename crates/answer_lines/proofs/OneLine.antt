-- Every answer is one line: its line feed is its last byte, and it has no other. A step's answer has at most 60 bytes, the
-- settings' at most 89.
use Prim.Native.Nat.{ℕ, suc, ◌≤◌}
use Prim.Native.String.{String}
use native.Mathlib.Omega.{arith}
use mathlib.Core.Path.{◌≡◌, refl}
use mathlib.Core.Bool.{Bool, true, not}
use mathlib.Core.List.{List, [], ◌∷◌, ◌++◌, append_assoc}
use lib.IntN.{ℤ, pos, negsuc}
use lib.ListN.{length, length-append}
use borrow.Author.Tests.{ne_eqb}
use Rattle.words.specs.Tests.{◌=?◌}
use Rattle.words.specs.Lists.{text, every}
use Rattle.words.specs.Said.{Said, number}
use Rattle.words.specs.Said.Said.{gives}
use Rattle.words.proofs.Booleans.{both_hold, whether}
use Rattle.words.proofs.Walks.{every_append}
use Rattle.decimals.specs.Decimals.{is_digit, digits, digits_in}
use Rattle.decimals.proofs.Digits.{digits_twenty, digits_all}
use Rattle.decimals.proofs.Reading.{digit_range}
use Rattle.settings.specs.declared.Settings.{Settings}
use Rattle.settings.specs.Settings.{refusal_of}
use Rattle.settings.specs.declared.Accepted.{Accepted}
use Rattle.settings.specs.Answers.{judged}
use Rattle.messages.specs.declared.Status.TheVariants.{Alive, Dead}
use Rattle.messages.specs.declared.Message.{Message}
use Rattle.messages.specs.declared.Message.TheVariants.{LeaseRequest, LeaseGrant, Check, CheckAck}
use Rattle.messages.specs.declared.Answer.{Answer}
use Rattle.messages.specs.declared.Answer.TheVariants.{Send, Say}
use Rattle.messages.specs.declared.Word.TheVariants.{Unregistered, Running, Stopped, Silent, Cut, Waiting, Late, Unknown, Dead as SaysDead, Alive as SaysAlive}
use Rattle.messages.specs.Answers.{refuses, says, given, words_of}
use Rattle.lines_rules.specs.Writing.{joined, line_of, one_number, two_numbers}
use Rattle.answer_lines.specs.Answers.{answer_line, signed, value_fields, settings_answer}
use Rattle.lines_rules.proofs.Lines.{request_line, grant_line, check_line, alive_line, dead_line}
use Rattle.answer_lines.proofs.Lines.{refusal_line, sent_line, word_line, value_line}

-- no line feed
abbrev pub is_plain : ℕ → Bool
is_plain byte = not (byte =? 10)

abbrev Plain : List ℕ → Type 0
Plain bytes = every is_plain bytes ≡ true

pub record OneLine (most : ℕ) (line : List ℕ) : Type 0 where
  pub front : List ℕ
  pub plain : every is_plain front ≡ true
  pub is : line ≡ front ++ text "\n"
  pub short : length line ≤ most

digits_plain : (ds : List ℕ) → every is_digit ds ≡ true → Plain ds
digits_plain [] e = refl
digits_plain (d ∷ ds) e =
    let p = both_hold (is_digit d) (every is_digit ds) e in
    let r = digit_range d p.0 in
    rw (ne_eqb d 10 (λ (z : d ≡ 10). omega (arith, r.0))) (digits_plain ds p.1)

number_plain : (n : ℕ) → Plain (digits n)
number_plain n = digits_plain (digits n) (digits_all n)

also : (xs ys : List ℕ) → Plain xs → Plain ys → Plain (xs ++ ys)
also = every_append is_plain

tabbed : (xs ys : List ℕ) → Plain xs → Plain ys → Plain (xs ++ text "\t" ++ ys)
tabbed xs ys p q = also (xs ++ text "\t") ys (also xs (text "\t") p refl) q

one_number_lem : (front : List ℕ) (n : ℕ) → Plain front → length front ≤ 16 → OneLine 60 (one_number front n)
one_number_lem front n p l =
    let d = digits_twenty n in
    record {
      front = front ++ digits n;
      plain = also front (digits n) p (number_plain n);
      is = refl;
      short = simp length-append (omega arith);
    }

two_numbers_lem : (front : List ℕ) (a b : ℕ) (end : List ℕ) → Plain front → Plain end → length front ≤ 12 → length end ≤ 6
    → OneLine 60 (two_numbers front a b (end ++ text "\n"))
two_numbers_lem front a b end p q l m =
    let d = digits_twenty a in
    let e = digits_twenty b in
    record {
      front = front ++ digits a ++ text "\t" ++ digits b ++ end;
      plain =
          also (front ++ digits a ++ text "\t" ++ digits b) end
          (tabbed (front ++ digits a) (digits b) (also front (digits a) p (number_plain a)) (number_plain b)) q;
      is = simp append_assoc;
      short = simp length-append (omega arith);
    }

word : (w : String) → Plain (text "0\t" ++ text w) → length (text w) ≤ 20 → OneLine 60 (answer_line (says w))
word w p l =
    record {
      front = text "0\t" ++ text w;
      plain = p;
      is = word_line w;
      short = rw (word_line w) (simp length-append (omega arith));
    }

-- a message's line behind the 0
message_line : (m : Message) → OneLine 60 (text "0\t" ++ line_of m)
message_line (LeaseRequest c) = rw (request_line c) (one_number_lem (text "0\tLEASE-REQUEST\t") c refl (omega arith))
message_line (LeaseGrant c) = rw (grant_line c) (one_number_lem (text "0\tLEASE-GRANT\t") c refl (omega arith))
message_line (Check ts) = rw (check_line ts) (one_number_lem (text "0\tCHECK\t") ts refl (omega arith))
message_line (CheckAck ts c Alive) =
    rw (alive_line ts c) (two_numbers_lem (text "0\tCHECK-ACK\t") ts c (text "\tAlive") refl refl (omega arith) (omega arith))
message_line (CheckAck ts c Dead) =
    rw (dead_line ts c) (two_numbers_lem (text "0\tCHECK-ACK\t") ts c (text "\tDead") refl refl (omega arith) (omega arith))

-- a refusal's number alone
pub refusal_line_lem : (k : ℕ) → OneLine 60 (answer_line (refuses k))
refusal_line_lem k = rw (refusal_line k) (one_number_lem [] k refl (omega arith))

-- a step's answer
pub answer_line_lem : (a : Answer) → OneLine 60 (answer_line (given a))
unfolding given words_of
answer_line_lem (Send m) = rw (sent_line m) (message_line m)
answer_line_lem (Say Unregistered) = word "unregistered" refl (omega arith)
answer_line_lem (Say Running) = word "running" refl (omega arith)
answer_line_lem (Say Stopped) = word "stopped" refl (omega arith)
answer_line_lem (Say Silent) = word "silent" refl (omega arith)
answer_line_lem (Say Cut) = word "cut" refl (omega arith)
answer_line_lem (Say Waiting) = word "waiting" refl (omega arith)
answer_line_lem (Say Late) = word "late" refl (omega arith)
answer_line_lem (Say Unknown) = word "unknown" refl (omega arith)
answer_line_lem (Say (SaysDead m)) = rw (value_line "dead" m) (one_number_lem (text "0\tdead\t") m refl (omega arith))
answer_line_lem (Say (SaysAlive m)) = rw (value_line "alive" m) (one_number_lem (text "0\talive\t") m refl (omega arith))

-- ---- the settings' answer

signed_plain : (z : ℤ) → Plain (signed z)
unfolding signed
signed_plain (pos n) = number_plain n
signed_plain (negsuc n) = number_plain (suc n)

signed_most : (z : ℤ) → length (signed z) ≤ 21
unfolding signed
signed_most (pos n) = let d = digits_twenty n in omega arith
signed_most (negsuc n) = let d = digits_twenty (suc n) in omega arith

refused_line : (k : ℕ) → OneLine 89 (joined (digits k ∷ []))
unfolding joined
refused_line k =
    let l = one_number_lem [] k refl (omega arith) in
    record { front = l.front; plain = l.plain; is = l.is; short = let d = l.short in omega arith }

-- the 0 with its tab
zeroed : (xs : List ℕ) → Plain xs → Plain (text "0\t" ++ xs)
zeroed xs p = also (text "0\t") xs refl p

values_line_lem : (v : Accepted) → OneLine 89 (joined (digits 0 ∷ value_fields (gives v)))
unfolding joined value_fields digits digits_in
values_line_lem v =
    let W = digits v.window in
    let a = signed v.slacks.a in
    let b = signed v.slacks.b in
    let c = signed v.slacks.c in
    let tab = text "\t" in
    let one = zeroed W (number_plain v.window) in
    let two = tabbed (text "0\t" ++ W) a one (signed_plain v.slacks.a) in
    let three = tabbed (text "0\t" ++ W ++ tab ++ a) b two (signed_plain v.slacks.b) in
    record {
      front = text "0\t" ++ W ++ tab ++ a ++ tab ++ b ++ tab ++ c;
      plain = tabbed (text "0\t" ++ W ++ tab ++ a ++ tab ++ b) c three (signed_plain v.slacks.c);
      is = simp append_assoc;
      short =
          simp length-append (omega
          (arith, digits_twenty v.window, signed_most v.slacks.a, signed_most v.slacks.b, signed_most v.slacks.c));
    }

pub settings_line_lem : (s : Settings) → OneLine 89 (settings_answer s)
unfolding settings_answer judged number value_fields
settings_line_lem s =
    whether (λ (answer : Said Accepted). OneLine 89 (joined (digits (number answer) ∷ value_fields answer))) (refusal_of s =? 0)
    (λ _. values_line_lem _) (λ _. refused_line (refusal_of s))
