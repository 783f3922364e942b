-- The first line, and what is written of its answer.
use Rattle.std.specs.Prelude.{if◌then◌else◌, Option, Some, None}
use Prim.Native.Nat.{ℕ, ◌+◌, ◌*◌, ◌≤◌, ◌<◌}
use native.Mathlib.Omega.{arith}
use native.Mathlib.Nat.{zero-add}
use mathlib.Core.Path.{◌≡◌, refl, sym, ap, ◌∙◌}
use mathlib.Core.Bool.{Bool, true, false}
use mathlib.Core.List.{List, [], ◌∷◌, ◌++◌, append-nil}
use lib.ListN.{length, take, drop, length-append, length-drop}
use lib.Seq.{length-take-le}
use borrow.Author.Tests.{lt-ltb, le-ltb, ltb-true, ltb-false}
use Rattle.words.specs.Tests.{◌<?◌, ◌=?◌}
use Rattle.words.specs.Said.{refused}
use Rattle.words.specs.Said.Said.{gives}
use Rattle.words.proofs.Booleans.{whether}
use Rattle.decimals.specs.Decimals.{digits, digits_in}
use Rattle.fields.specs.Places.{put_at}
use Rattle.fields.proofs.Rooms.{put_fits}
use Rattle.settings.specs.declared.Settings.{Settings}
use Rattle.settings.specs.Settings.{refusal_of}
use Rattle.messages.specs.Answers.{refuses}
use Rattle.lines_rules.specs.Writing.{fitting, filled}
use Rattle.lines_rules.proofs.Lines.{fits_said, fits_room}
use Rattle.step_lines.specs.Reading.{settings_line}
use Rattle.step_lines.proofs.Lengths.{needed_first, settings_line_length}
use Rattle.answer_lines.specs.Answers.{answer_line, settings_answer}
use Rattle.answer_lines.proofs.Lines.{refusal_line}
use Rattle.answer_lines.proofs.OneLine.{settings_line_lem}
use Rattle.session.specs.Session.{started}
use Rattle.stepfile_rules.specs.Lines.{lines_of}
use Rattle.stepfile_rules.specs.Parts.{line_length, length_said}
use Rattle.stepfile_rules.specs.Files.{answers_to, after_settings, answers_of, answers, most_bytes, room_for, answered_said, answered_room}
use Rattle.stepfile_rules.proofs.Lines.{line_some, line_within, first_line}
use Rattle.stepfile_rules.proofs.Steps.{answers_short}

-- a line that fits is written whole
pub written : (line room : List ℕ) → length line ≤ length room
    → (length_said (fitting line room) ≡ length line) × (filled line room ≡ put_at room 0 line)
unfolding length_said
written line room h =
    let fits = put_fits room 0 line (omega arith) in
    (ap length_said (fits_said line room h), fits_room line room h ∙ sym (fits ∙ rw (zero-add (length line)) refl))

module _ (input : List ℕ) (some : 0 < length input) (count : ℕ) (counted : count ≡ line_length input) where
  pub first_within : count ≤ length input
  first_within = omega (arith, counted, line_within input)

  pub opened : answers_of (lines_of input) ≡ after_settings (settings_line (take count input)) (lines_of (drop count input))
  unfolding answers_of
  opened = rw (first_line input some, counted) refl

  -- 14 bytes or more have at most 89
  pub settings_fit : (s : Settings) → settings_line (take count input) ≡ Some s → length (settings_answer s) ≤ 7 * count
  settings_fit s e =
      let long = length-take-le count input first_within in
      let least = rw e at (settings_line_length (take count input)) in
      let most = (settings_line_lem s).short in
      omega (arith, least, most, long)

  -- the run goes on, or ends
  pub goes_on : (s : Settings) → settings_line (take count input) ≡ Some s → refusal_of s =? 0 ≡ true
      → answers_of (lines_of input) ≡ settings_answer s ++ answers_to (started s) (lines_of (drop count input))
  unfolding after_settings
  goes_on s e accepted = opened ∙ rw (e, accepted) refl

  pub ends : (s : Settings) → settings_line (take count input) ≡ Some s → refusal_of s =? 0 ≡ false
      → answers_of (lines_of input) ≡ settings_answer s
  unfolding after_settings
  ends s e refused = opened ∙ rw (e, refused) (append-nil (settings_answer s))

-- ---- the whole file

-- room below what is enough
pub too_short : (input room : List ℕ) → length room < room_for (length input)
    → (answered_said input room ≡ refused 10) × (answered_room input room ≡ room)
unfolding answered_said answered_room
too_short input room h = rw (lt-ltb (length room) (room_for (length input)) h) (refl, refl)

-- room that is enough, and the answers put at its front
pub answered : (input room : List ℕ) → room_for (length input) ≤ length room → length (answers input) ≤ length room
    → (answered_said input room ≡ gives (length (answers input))) × (answered_room input room ≡ put_at room 0 (answers input))
unfolding answered_said answered_room
answered input room h fits =
    rw (le-ltb (length room) (room_for (length input)) h)
    (refl, sym (put_fits room 0 (answers input) (omega arith) ∙ rw (zero-add (length (answers input))) refl))

-- an input that is too long
pub too_long : (input : List ℕ) → most_bytes < length input
    → (answers input ≡ answer_line (refuses 10)) × (room_for (length input) ≡ 3)
unfolding answers room_for
too_long input h = rw (lt-ltb most_bytes (length input) h) (refl, refl)

pub ten : length (answer_line (refuses 10)) ≡ 3
unfolding digits digits_in
ten = rw (refusal_line 10) refl

-- its answer is written where it fits, and else nothing is
pub too_long_said : (input room : List ℕ) → most_bytes < length input
    → (fitting (answer_line (refuses 10)) room ≡ answered_said input room) × (filled (answer_line (refuses 10)) room ≡ answered_room input room)
unfolding fitting filled answered_said answered_room
too_long_said input room h = let l = too_long input h in rw (l.0, l.1, ten) (refl, refl)

-- and one that is not
pub in_length : (input : List ℕ) → length input ≤ most_bytes
    → (answers input ≡ answers_of (lines_of input)) × (room_for (length input) ≡ 7 * length input)
unfolding answers room_for
in_length input h = rw (le-ltb most_bytes (length input) h) (refl, refl)

-- the answers to a run never take more than 7 times its length
first_short : (first : Option Settings) (count : ℕ) (rest : List ℕ) → needed_first first ≤ count → 0 < count
    → length (after_settings first (lines_of rest)) ≤ 7 * (count + length rest)
unfolding after_settings digits digits_in
first_short None count rest h some = rw (refusal_line 9) (omega arith)
first_short (Some s) count rest h some =
    let most = (settings_line_lem s).short in
    let later : length (if refusal_of s =? 0 then answers_to (started s) (lines_of rest) else []) ≤ 7 * length rest
    = whether (λ (l : List ℕ). length l ≤ 7 * length rest) (refusal_of s =? 0) (λ e. answers_short (started s) rest)
    (λ e. omega arith) in
    rw (length-append (settings_answer s) _) (omega (arith, most, later))

some_lines : (input : List ℕ) → 0 < length input → length (answers_of (lines_of input)) ≤ 7 * length input
some_lines input some =
    let count = line_length input in
    let line = length-take-le count input (line_within input) in
    let short =
    first_short (settings_line (take count input)) count (drop count input)
    (omega (arith, settings_line_length (take count input), line)) (line_some input some) in
    rw (opened input some count refl) (omega (arith, short, length-drop count input, line_within input))

no_answers : answers_of (lines_of []) ≡ []
unfolding answers_of lines_of
no_answers = refl

pub none_answered : (input : List ℕ) → length input ≡ 0 → answers_of (lines_of input) ≡ []
none_answered [] h = no_answers
none_answered (byte ∷ bytes) h = absurd (let z : ⊥ = omega arith in z)

pub lines_short : (input : List ℕ) → length (answers_of (lines_of input)) ≤ 7 * length input
lines_short [] = rw no_answers (omega arith)
lines_short (byte ∷ bytes) = some_lines (byte ∷ bytes) (omega arith)

-- the room that is asked for is enough
pub enough : (input : List ℕ) → length (answers input) ≤ room_for (length input)
enough input = by_length (most_bytes <? length input) refl
  where
    by_length : (t : Bool) → (most_bytes <? length input) ≡ t → length (answers input) ≤ room_for (length input)
    by_length true e = let l = too_long input (ltb-true most_bytes (length input) e) in rw (l.0, l.1, ten) (omega arith)
    by_length false e = let l = in_length input (ltb-false most_bytes (length input) e) in rw (l.0, l.1) (lines_short input)

-- what is written is the answers: the code's length and room are the definition's
pub settled : (input room : List ℕ) → room_for (length input) ≤ length room → (said : List ℕ) → answers input ≡ said
    → (k : ℕ) (room' : List ℕ)
    → k ≡ length said → room' ≡ put_at room 0 said → (gives k ≡ answered_said input room) × (room' ≡ answered_room input room)
settled input room h said e k room' long put =
    let a = answered input room h (omega (arith, enough input)) in
    (ap gives (long ∙ ap length (sym e)) ∙ sym a.0, put ∙ ap (put_at room 0) (sym e) ∙ sym a.1)

-- a length that is answered lies in the room
pub in_room : (input room : List ℕ) (k : ℕ) → gives k ≡ answered_said input room → k ≤ length room
unfolding answered_said length_said
in_room input room k = by (length room <? room_for (length input)) refl
  where
    by : (t : Bool) → (length room <? room_for (length input)) ≡ t
        → gives k ≡ (if t then refused 10 else gives (length (answers input))) → k ≤ length room
    by true t e = omega (arith, ap length_said e)
    by false t e = omega (arith, ap length_said e, enough input, ltb-false (length room) (room_for (length input)) t)
