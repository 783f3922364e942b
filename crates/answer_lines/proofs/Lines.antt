-- Each answer's line as the code makes it.
use Rattle.std.specs.Prelude.{if◌then◌else◌, unsigned_abs}
use Prim.Native.Nat.{ℕ}
use Prim.Native.String.{String}
use mathlib.Core.Path.{◌≡◌, refl, ap}
use mathlib.Core.Bool.{Bool, true, false, ◌||◌, true≢false}
use mathlib.Core.List.{List, [], ◌∷◌, ◌++◌, append_assoc}
use lib.IntN.{ℤ, pos, negsuc}
use borrow.Author.Tests.{eqb-true}
use Rattle.words.specs.Lists.{text}
use Rattle.words.specs.Said.{Said, number, refused}
use Rattle.words.specs.Said.Said.{refusal, gives}
use Rattle.decimals.specs.Decimals.{digits, digits_in}
use Rattle.words.specs.Tests.{◌=?◌}
use Rattle.words.proofs.Booleans.{neither_holds}
use Rattle.settings.specs.declared.Settings.{Settings}
use Rattle.settings.specs.Settings.{slack_a, slack_b, slack_c, negative, refusal_of, window}
use Rattle.settings.specs.declared.Accepted.{Accepted}
use Rattle.settings.specs.Answers.{three, judged}
use Rattle.settings.proofs.Laws.{passes}
use Rattle.messages.specs.declared.Message.{Message}
use Rattle.messages.specs.declared.Message.TheVariants.{LeaseRequest, LeaseGrant, Check, CheckAck}
use Rattle.messages.specs.Messages.{fields_of}
use Rattle.messages.specs.Answers.{refuses, sends, says, says_of, sent_fields, spoken_fields}
use Rattle.lines_rules.specs.Writing.{bytes_of, joined, line_of, one_number}
use Rattle.answer_lines.specs.Answers.{answer_line, signed, value_fields, settings_answer}
use Rattle.answer_lines.specs.Parts.{values_line}

pub refusal_line : (k : ℕ) → answer_line (refuses k) ≡ one_number [] k
unfolding answer_line number spoken_fields joined
refusal_line k = refl

-- a message's line behind the 0
pub sent_line : (m : Message) → answer_line (sends m) ≡ text "0\t" ++ line_of m
unfolding answer_line number spoken_fields sent_fields fields_of line_of joined digits digits_in
sent_line (LeaseRequest cnt) = refl
sent_line (LeaseGrant cnt) = refl
sent_line (Check ts) = refl
sent_line (CheckAck ts cnt status) = refl

pub word_line : (w : String) → answer_line (says w) ≡ text "0\t" ++ text w ++ text "\n"
unfolding answer_line number spoken_fields sent_fields bytes_of joined digits digits_in
word_line w = refl

pub value_line : (w : String) (m : ℕ) → answer_line (says_of w m) ≡ one_number (text "0\t" ++ text w ++ text "\t") m
unfolding answer_line number spoken_fields sent_fields bytes_of joined digits digits_in
value_line w m = simp append_assoc

-- a number that is not below zero
signed_whole : (z : ℤ) → negative z ≡ false → signed z ≡ digits (unsigned_abs z)
unfolding signed
signed_whole (pos n) e = refl
signed_whole (negsuc n) e = absurd (true≢false e)

nested : (zero tab W a b c end : List ℕ)
    → zero ++ (tab ++ (W ++ (tab ++ (a ++ (tab ++ (b ++ (tab ++ (c ++ end))))))))
    ≡ zero ++ (tab ++ W) ++ (tab ++ a) ++ (tab ++ b) ++ (tab ++ c) ++ end
nested zero tab W a b c end = simp append_assoc

pub values_line_lem : (v : Accepted) → negative v.slacks.a ≡ false → negative v.slacks.b ≡ false → negative v.slacks.c ≡ false
    → joined (digits 0 ∷ value_fields (gives v)) ≡ values_line v
unfolding value_fields joined digits digits_in
values_line_lem v a b c =
    rw (signed_whole v.slacks.a a, signed_whole v.slacks.b b, signed_whole v.slacks.c c)
    (nested (text "0") (text "\t") (digits v.window) (digits (unsigned_abs v.slacks.a)) (digits (unsigned_abs v.slacks.b))
    (digits (unsigned_abs v.slacks.c)) (text "\n"))

-- ---- the settings' answer

abbrev is_gift : {A : Type 0} → Said A → Bool
is_gift (refusal k values) = false
is_gift (gives a) = true

abbrev gift : {A : Type 0} → A → Said A → A
gift a (refusal k values) = a
gift a (gives b) = b

-- values are given of accepted settings only, and are theirs
pub given : (s : Settings) (v : Accepted) → gives v ≡ judged s → (refusal_of s ≡ 0) × (v ≡ record { window = window s; slacks = three s })
unfolding judged
given s v = by (refusal_of s =? 0) refl
  where
    by : (t : Bool) → (refusal_of s =? 0) ≡ t
        → gives v ≡ (if t then gives (record { window = window s; slacks = three s }) else refused (refusal_of s))
        → (refusal_of s ≡ 0) × (v ≡ record { window = window s; slacks = three s })
    by true t e = (eqb-true (refusal_of s) 0 t, ap (gift v) e)
    by false t e = absurd (true≢false (ap is_gift e))

-- none of their slacks is below zero
pub none_negative : (s : Settings) (v : Accepted) → gives v ≡ judged s
    → (negative v.slacks.a ≡ false) × (negative v.slacks.b ≡ false) × (negative v.slacks.c ≡ false)
none_negative s v e =
    let g = given s v e in
    let ab_c = neither_holds (negative (slack_a s) || negative (slack_b s)) (negative (slack_c s)) (passes s g.0).1 in
    let a_b = neither_holds (negative (slack_a s)) (negative (slack_b s)) ab_c.0 in
    rw g.1 (a_b.0, a_b.1, ab_c.1)

pub accepted_answer : (s : Settings) (v : Accepted) → gives v ≡ judged s → settings_answer s ≡ values_line v
unfolding settings_answer number
accepted_answer s v e = let w = none_negative s v e in rw (← e) (values_line_lem v w.0 w.1 w.2)

pub refused_answer : (s : Settings) (k : ℕ) → refused k ≡ judged s → settings_answer s ≡ one_number [] k
unfolding settings_answer number value_fields joined
refused_answer s k e = rw (← e) refl
