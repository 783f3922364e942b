-- The first line gives the settings, and the answers to the others stand behind theirs.
use Rattle.std.proofs.Common.{◌≡◌, refl, sym, ap, ◌∙◌, ◌*◌, ◌≤◌, ◌<◌, ℕ, List, true, false, length, take, drop, length-append, arith}
use Rattle.std.specs.Prelude.{Some, Result, Ok, Err, is_ok}
use mathlib.Core.Bool.{true≢false}
use native.Mathlib.Nat.{zero-add}
use lib.ListN.{length-drop}
use borrow.Author.Tests.{eq-eqb, ne_eqb}
use Rattle.fields.specs.Places.{put_at}
use Rattle.fields.proofs.Rooms.{put_more, length_put}
use Rattle.words.specs.Tests.{◌=?◌}
use Rattle.refusals.specs.declared.Refusal.{Refusal}
use Rattle.refusals.specs.Refusals.{number_in}
use Rattle.refusals.proofs.Apart.{some_number}
use Rattle.settings.specs.declared.Settings.{Settings}
use Rattle.lines_rules.specs.Writing.{fitting, filled}
use Rattle.decimals.specs.Decimals.{digits, digits_in}
use Rattle.messages.specs.Answers.{said, refuses}
use Rattle.step_lines.specs.Reading.{settings_line}
use Rattle.answer_lines.specs.Answers.{answer_line, settings_answer}
use Rattle.answer_lines.proofs.Lines.{refusal_line}
use Rattle.session.specs.Session.{started}
use Rattle.stepfile_rules.specs.Lines.{lines_of}
use Rattle.stepfile_rules.specs.Files.{answers_to, after_settings}
use Rattle.stepfile_rules.specs.Parts.{line_length, length_said}
use Rattle.stepfile_rules.proofs.Steps.{answers_short}
use Rattle.stepfile_rules.proofs.Files.{written, first_within, opened, settings_fit, goes_on, ends}
use Rattle.stepfile.proofs.answer_lines_of.Goals as goal

-- what `accept` says is what the rules say
accepted : {A : Type 0} (result : Result A Refusal) (k : ℕ) → number_in result ≡ k → is_ok result ≡ true → (k =? 0) ≡ true
accepted (Ok a) k e h = eq-eqb k 0 (sym e)
accepted (Err r) k e h = absurd (true≢false (sym h))

refused : {A : Type 0} (result : Result A Refusal) (k : ℕ) → number_in result ≡ k → is_ok result ≡ false → (k =? 0) ≡ false
refused (Ok a) k e h = absurd (true≢false h)
refused (Err r) k e h = ne_eqb k 0 (λ (z : k ≡ 0). some_number r (e ∙ z))

-- the settings' answer fits
module _ (input room : List ℕ) (some : 0 < length input) (enough : 7 * length input ≤ length room) (s : Settings)
    (given : settings_line (take (line_length input) input) ≡ Some s) where
  within : line_length input ≤ length input
  within = first_within input some (line_length input) refl

  short : length (settings_answer s) ≤ 7 * line_length input
  short = settings_fit input some (line_length input) refl s given

  answered : (length_said (fitting (settings_answer s) room) ≡ length (settings_answer s))
      × (filled (settings_answer s) room ≡ put_at room 0 (settings_answer s))
  answered = written (settings_answer s) room (omega (arith, short, within, enough))

pub returns-in_default : goal.returns-in_default
unfolding said after_settings digits digits_in
returns-in_default c =
    let input = c.args.input.now in
    let w = written (answer_line (refuses 9)) c.args.out.now (rw (refusal_line 9) (omega (arith, c.requires.2, c.requires.0))) in
    let none = sym (c.read_settings_line.ensures ∙ ap settings_line c.split_line.ensures.0) ∙ c.in_default.is in
    rw (opened input c.requires.0 (line_length input) refl, none) (
      c.length_of.ensures ∙ ap length_said c.write_step_answer.ensures.0 ∙ w.0,
      c.write_step_answer.ensures.1 ∙ w.1,
    )

pub answer_steps-requires : goal.answer_steps-requires
answer_steps-requires c =
    let input = c.args.input.now in
    let room = c.args.out.now in
    let s = c.in-Some.s in
    let given = sym (c.read_settings_line.ensures ∙ ap settings_line c.split_line.ensures.0) ∙ c.in-Some.is in
    let fits = short input room c.requires.0 c.requires.2 s given in
    let most = within input room c.requires.0 c.requires.2 s given in
    let w = answered input room c.requires.0 c.requires.2 s given in
    let at = c.length_of-at.ensures ∙ ap length_said c.write_settings_answer.ensures.0 ∙ w.0 in
    let sized = ap length (c.write_settings_answer.ensures.1 ∙ w.1) ∙ length_put room 0 (settings_answer s) in
    let left = ap length c.split_line.ensures.1 ∙ length-drop (line_length input) input in
    (omega (arith, left, c.requires.1), omega (arith, fits, at, sized, left, most, c.requires.2))

pub returns-then-accepted : goal.returns-then-accepted
returns-then-accepted c =
    let input = c.args.input.now in
    let room = c.args.out.now in
    let s = c.in-Some.s in
    let first = settings_answer s in
    let rest = answers_to (started s) (lines_of (drop (line_length input) input)) in
    let given = sym (c.read_settings_line.ensures ∙ ap settings_line c.split_line.ensures.0) ∙ c.in-Some.is in
    let fits = short input room c.requires.0 c.requires.2 s given in
    let most = within input room c.requires.0 c.requires.2 s given in
    let w = answered input room c.requires.0 c.requires.2 s given in
    let at = c.length_of-at.ensures ∙ ap length_said c.write_settings_answer.ensures.0 ∙ w.0 in
    let out = c.write_settings_answer.ensures.1 ∙ w.1 in
    let later = answers_short (started s) (drop (line_length input) input) in
    let left = length-drop (line_length input) input in
    let more = put_more room 0 first rest (omega (arith, fits, later, left, most, c.requires.2)) in
    let steps = rw c.split_line.ensures.1 at c.answer_steps.ensures in
    let goes = accepted c.accept.result _ c.accept.ensures (sym c.is_ok-accepted.ensures.value ∙ c.if-accepted.true) in
    rw (goes_on input c.requires.0 (line_length input) refl s given goes) (
      steps.0 ∙ rw at (sym (length-append first rest)),
      steps.1 ∙ rw (out, at) (rw (zero-add (length first)) at more),
    )

pub returns-else-accepted : goal.returns-else-accepted
returns-else-accepted c =
    let input = c.args.input.now in
    let room = c.args.out.now in
    let s = c.in-Some.s in
    let given = sym (c.read_settings_line.ensures ∙ ap settings_line c.split_line.ensures.0) ∙ c.in-Some.is in
    let w = answered input room c.requires.0 c.requires.2 s given in
    let at = c.length_of-at.ensures ∙ ap length_said c.write_settings_answer.ensures.0 ∙ w.0 in
    let stops = refused c.accept.result _ c.accept.ensures (sym c.is_ok-accepted.ensures.value ∙ c.if-accepted.false) in
    rw (ends input c.requires.0 (line_length input) refl s given stops) (at, c.write_settings_answer.ensures.1 ∙ w.1)
