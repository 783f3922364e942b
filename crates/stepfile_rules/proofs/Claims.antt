-- Each answer is one line, so each line gets one.
use Rattle.std.specs.Prelude.{if◌then◌else◌, Option, Some, None}
use Prim.Native.Nat.{ℕ, suc}
use mathlib.Core.Path.{◌≡◌, refl, ap, ◌∙◌}
use mathlib.Core.Bool.{Bool, true, false}
use mathlib.Core.List.{List, [], ◌∷◌, ◌++◌, append-nil}
use lib.ListN.{length}
use borrow.Author.Tests.{not-true}
use Rattle.words.specs.Tests.{◌<?◌, ◌=?◌}
use Rattle.words.specs.Lists.{text, every}
use Rattle.words.proofs.Booleans.{both_hold}
use Rattle.settings.specs.Settings.{refusal_of}
use Rattle.messages.specs.Answers.{refuses}
use Rattle.settings.specs.declared.Settings.{Settings}
use Rattle.step_lines.specs.Reading.{settings_line, step_line}
use Rattle.answer_lines.specs.Answers.{answer_line, settings_answer}
use Rattle.answer_lines.proofs.OneLine.{is_plain, OneLine, refusal_line_lem, settings_line_lem}
use Rattle.session.specs.declared.Session.{Session}
use Rattle.session.specs.Session.{started, perform_of}
use Rattle.session.proofs.Spoken.{performed}
use Rattle.stepfile_rules.proofs.Steps.{one_answer}
use Rattle.stepfile_rules.specs.Lines.{onto, lines_of}
use Rattle.stepfile_rules.specs.Files.{answers_to, after_settings, answers_of, most_bytes, answers}
use Rattle.stepfile_rules.specs.Claims.{starts_run, answered_of, answered_lines, OneLineEach}

-- what stands before a line's feed has none itself
plain_line : (front rest : List ℕ) → every is_plain front ≡ true
    → lines_of ((front ++ text "\n") ++ rest) ≡ (front ++ text "\n") ∷ lines_of rest
unfolding lines_of onto
plain_line [] rest p = refl
plain_line (byte ∷ front) rest p =
    let b = both_hold (is_plain byte) (every is_plain front) p in
    rw (not-true (byte =? 10) b.0, plain_line front rest b.1) refl

one_line : {most : ℕ} (line rest : List ℕ) → OneLine most line → length (lines_of (line ++ rest)) ≡ suc (length (lines_of rest))
one_line line rest l = rw l.is (ap length (plain_line l.front rest l.plain))

alone : {most : ℕ} (line : List ℕ) → OneLine most line → length (lines_of line) ≡ 1
unfolding lines_of
alone line l = rw (append-nil line) at (one_line line [] l)

in_a_run : (q : Session) (lines : List (List ℕ)) → length (lines_of (answers_to q lines)) ≡ length lines
unfolding answers_to lines_of
in_a_run q [] = refl
in_a_run q (line ∷ lines) =
    let later = in_a_run (perform_of q (step_line line)).rec lines in
    one_line (answer_line (perform_of q (step_line line)).answer) _ (one_answer (performed q (step_line line))) ∙ ap suc later

refused : (k : ℕ) → length (lines_of (answer_line (refuses k))) ≡ 1
refused k = alone _ (refusal_line_lem k)

after : (first : Option Settings) (lines : List (List ℕ))
    → length (lines_of (after_settings first lines)) ≡ (if starts_run first then suc (length lines) else 1)
unfolding after_settings starts_run
after None lines = refused 9
after (Some s) lines = by (refusal_of s =? 0)
  where
    by : (t : Bool) → length (lines_of (settings_answer s ++ (if t then answers_to (started s) lines else [])))
        ≡ (if t then suc (length lines) else 1)
    by true = one_line (settings_answer s) _ (settings_line_lem s) ∙ ap suc (in_a_run (started s) lines)
    by false = rw (append-nil (settings_answer s)) (alone (settings_answer s) (settings_line_lem s))

in_lines : (lines : List (List ℕ)) → length (lines_of (answers_of lines)) ≡ answered_of lines
unfolding answers_of answered_of lines_of
in_lines [] = refl
in_lines (line ∷ lines) = after (settings_line line) lines

in_a_file : (input : List ℕ) → length (lines_of (answers input)) ≡ answered_lines input
unfolding answers answered_lines
in_a_file input = by (most_bytes <? length input)
  where
    by : (t : Bool) → length (lines_of (if t then answer_line (refuses 10) else answers_of (lines_of input)))
        ≡ (if t then 1 else answered_of (lines_of input))
    by true = refused 10
    by false = in_lines (lines_of input)

pub one_line_each_lem : OneLineEach
one_line_each_lem = record { in_a_run = in_a_run; in_a_file = in_a_file }
