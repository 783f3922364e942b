-- The loop over the step lines: what has been written so far, and what is still to come, are the answers.
use Rattle.std.specs.Prelude.{Option, Some, None}
use Prim.Native.Nat.{ℕ, zero, suc, ◌+◌, ◌*◌, ◌≤◌, ◌<◌}
use native.Mathlib.Omega.{arith}
use native.Mathlib.Nat.{le_refl}
use mathlib.Core.Path.{◌≡◌, refl, ap, ◌∙◌}
use mathlib.Core.List.{List, [], ◌∷◌, ◌++◌, append_assoc, append-nil}
use lib.ListN.{length, take, drop, length-append, length-drop}
use lib.Seq.{length-take-le}
use Rattle.words.specs.Said.{Said}
use Rattle.decimals.specs.Decimals.{digits, digits_in}
use Rattle.fields.specs.Places.{put_at}
use Rattle.fields.proofs.Rooms.{length_put, put_nothing, put_more}
use Rattle.messages.specs.Answers.{Spoken}
use Rattle.messages.specs.Outcomes.{Outcome}
use Rattle.settings.specs.declared.Settings.{Settings}
use Rattle.recorder_rules.specs.declared.Recorder as Recorder
use Rattle.observer_rules.specs.declared.Observer as Observer
use Rattle.standby_rules.specs.declared.Standby as Standby
use Rattle.step_lines.specs.declared.StepLine.{StepLine}
use Rattle.step_lines.specs.Reading.{step_line}
use Rattle.step_lines.proofs.Lengths.{needed, step_line_length}
use Rattle.answer_lines.specs.Answers.{answer_line}
use Rattle.answer_lines.proofs.Lines.{refusal_line}
use Rattle.answer_lines.proofs.OneLine.{OneLine, refusal_line_lem, answer_line_lem}
use Rattle.session.specs.declared.Session.{Session}
use Rattle.session.specs.Session.{perform_of}
use Rattle.session.proofs.Spoken.{IsAnswer, performed}
use Rattle.session.proofs.Spoken.IsAnswer.{refuses_by, gives_it}
use Rattle.stepfile_rules.specs.Lines.{lines_of}
use Rattle.stepfile_rules.specs.Parts.{line_length}
use Rattle.stepfile_rules.specs.Files.{answers_to}
use Rattle.stepfile_rules.proofs.Lines.{line_some, line_within, first_line}

-- every answer is one line
pub one_answer : {x : Said Spoken} → IsAnswer x → OneLine 60 (answer_line x)
one_answer (refuses_by k) = refusal_line_lem k
one_answer (gives_it a) = answer_line_lem a

-- An answer is at most 7 times as long as its line: 9 bytes or more have at most 60, and the answer to no line has 2.
long : (x : Said Spoken) (count : ℕ) → IsAnswer x → 9 ≤ count → length (answer_line x) ≤ 7 * count
long x count p h = let short = (one_answer p).short in omega arith

bad : (q : Session) (count : ℕ) → 0 < count → length (answer_line (perform_of q None).answer) ≤ 7 * count
unfolding perform_of digits digits_in
bad q count h = rw (refusal_line 9) (omega arith)

pub answer_short : (q : Session) (line : List ℕ) → 0 < length line
    → length (answer_line (perform_of q (step_line line)).answer) ≤ 7 * length line
answer_short q line some = by (step_line line) (step_line_length line)
  where
    by : (l : Option StepLine) → needed l ≤ length line → length (answer_line (perform_of q l).answer) ≤ 7 * length line
    by None h = bad q (length line) some
    by (Some l) h = long _ _ (performed q (Some l)) h

-- all answers together
no_lines : lines_of [] ≡ []
unfolding lines_of
no_lines = refl

abbrev Short : Session → List ℕ → Type 0
Short q s = length (answers_to q (lines_of s)) ≤ 7 * length s

one_more : (q : Session) (s : List ℕ) → ((r : Session) (t : List ℕ) → length t < length s → Short r t) → Short q s
unfolding answers_to
one_more q [] later = rw no_lines (omega arith)
one_more q (byte ∷ bytes) later =
    let s = byte ∷ bytes in
    let count = line_length s in
    let some = line_some s (omega arith) in
    let most = line_within s in
    let line = take count s in
    let long = length-take-le count s most in
    let short = answer_short q line (omega (arith, long)) in
    let left = length-drop count s in
    let rest = later (perform_of q (step_line line)).rec (drop count s) (omega arith) in
    rw (first_line s (omega arith), length-append (answer_line (perform_of q (step_line line)).answer) _)
    (omega (arith, long, left, rest, short))

within : (fuel : ℕ) (q : Session) (s : List ℕ) → length s ≤ fuel → Short q s
within zero q s h = one_more q s (λ r t (l : length t < length s). absurd (let z : ⊥ = omega arith in z))
within (suc fuel) q s h = one_more q s (λ r t (l : length t < length s). within fuel r t (omega arith))

pub answers_short : (q : Session) (s : List ℕ) → length (answers_to q (lines_of s)) ≤ 7 * length s
answers_short q s = within (length s) q s (le_refl (length s))

-- ---- the loop

-- the session that the loop's variables make
abbrev pub session_of : Settings → Recorder.Recorder → List Observer.Observer → Standby.Standby → Session
session_of s rec observers asking = record { settings = s; recorder = rec; observers = observers; standby = asking }

-- `done` has been written of the answers to `lines`; those to `rest` are still to come
pub record Gone (lines out₀ : List ℕ) (begin : ℕ) (session₀ : Session) (out : List ℕ) (session : Session) (rest : List ℕ) (at : ℕ) : Type 0 where
  pub done : List ℕ
  pub enough : at + 7 * length rest ≤ length out₀
  pub place : at ≡ begin + length done
  pub holds : out ≡ put_at out₀ begin done
  pub whole : answers_to session₀ (lines_of lines) ≡ done ++ answers_to session (lines_of rest)

module _ {lines out₀ : List ℕ} {begin : ℕ} {session₀ : Session} where
  pub gone_none : begin + 7 * length lines ≤ length out₀ → Gone lines out₀ begin session₀ out₀ session₀ lines begin
  gone_none enough =
      record {
        done = [];
        enough = enough;
        place = omega arith;
        holds = put_nothing out₀ begin (omega arith);
        whole = refl;
      }

  -- the room keeps its length, and its next place is in it
  pub gone_sized : {out : List ℕ} {session : Session} {rest : List ℕ} {at : ℕ} → Gone lines out₀ begin session₀ out session rest at
      → length out ≡ length out₀
  gone_sized g = ap length g.holds ∙ length_put out₀ begin g.done

  -- the next answer fits
  pub gone_fits : {out : List ℕ} {session : Session} {rest : List ℕ} {at : ℕ} → Gone lines out₀ begin session₀ out session rest at
      → 0 < length rest
      → at + length (answer_line (perform_of session (step_line (take (line_length rest) rest))).answer) ≤ length out
  gone_fits {session = session} {rest = rest} g more =
      let some = line_some rest more in
      let most = line_within rest in
      let line = take (line_length rest) rest in
      let long : length line ≡ line_length rest = length-take-le (line_length rest) rest most in
      let short = answer_short session line (omega (arith, long)) in
      omega (arith, g.enough, long, gone_sized g)

  -- one line more
  pub gone_next : {out : List ℕ} {session : Session} {rest : List ℕ} {at : ℕ} → Gone lines out₀ begin session₀ out session rest at
      → 0 < length rest
      → (o : Outcome Session) → o ≡ perform_of session (step_line (take (line_length rest) rest))
      → (out' : List ℕ) → out' ≡ put_at out at (answer_line o.answer)
      → Gone lines out₀ begin session₀ out' o.rec (drop (line_length rest) rest) (at + length (answer_line o.answer))
  unfolding answers_to
  gone_next {session = session} {rest = rest} g more o performed out' written =
      let count = line_length rest in
      let left = length-drop count rest in
      let line = take count rest in
      let answer = answer_line o.answer in
      let some = line_some rest more in
      let most = line_within rest in
      let long : length line ≡ count = length-take-le count rest most in
      let short : length answer ≤ 7 * length line = rw performed (answer_short session line (omega (arith, long))) in
      record {
        done = g.done ++ answer;
        enough = omega (arith, g.enough, long, left);
        place = rw (length-append g.done answer) (omega (arith, g.place));
        holds = written ∙ rw (g.holds, g.place) (put_more out₀ begin g.done answer (omega (arith, g.place, g.enough, long)));
        whole = g.whole ∙ rw (first_line rest more, append_assoc g.done answer _, performed) refl;
      }

  -- at the end nothing is to come
  pub gone_all : {out : List ℕ} {session : Session} {rest : List ℕ} {at : ℕ} → Gone lines out₀ begin session₀ out session rest at
      → length rest ≡ 0
      → (at ≡ begin + length (answers_to session₀ (lines_of lines))) × (out ≡ put_at out₀ begin (answers_to session₀ (lines_of lines)))
  unfolding answers_to lines_of
  gone_all {rest = []} g end =
      let whole : answers_to session₀ (lines_of lines) ≡ g.done = g.whole ∙ append-nil g.done in
      rw whole (g.place, g.holds)
  gone_all {rest = byte ∷ bytes} g end = absurd (let z : ⊥ = omega arith in z)
