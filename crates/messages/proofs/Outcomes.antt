-- A step's table of refusals: a refused step hands its record back, and one that is not refused leaves what it should.
use Prim.Native.Nat.{ℕ}
use native.Mathlib.Omega.{arith}
use mathlib.Core.Path.{◌≡◌, sym, ap, ◌∙◌}
use mathlib.Core.Bool.{true, ◌||◌, not}
use mathlib.Core.List.{List}
use borrow.Author.Tests.{eqb-true, eqb-false, eq-eqb, ne_eqb}
use Rattle.words.specs.Tests.{◌=?◌}
use Rattle.words.specs.Lists.{every}
use Rattle.words.specs.Said.{Refusal, first}
use Rattle.words.specs.Said.Said.{gives}
use Rattle.words.proofs.Booleans.{whether}
use Rattle.words.proofs.Said.{never_given}
use Rattle.messages.specs.declared.Message.{Message}
use Rattle.messages.specs.Messages.{Field}
use Rattle.messages.specs.Answers.{Spoken, refuses, sends, speaks, sent, nothing, message}
use Rattle.messages.specs.Outcomes.{Outcome, ◌leaving◌, unless_refused}

module _ {R : Type 0} (table : List Refusal) (rec : R) (step : Outcome R) where
  -- what holds of the refusal and of the step holds of the outcome
  pub either_way : (Q : Outcome R → Type 0) → ((first table ≡ 0 → ⊥) → Q (refuses (first table) leaving rec))
      → (first table ≡ 0 → Q step)
      → Q (unless_refused table rec step)
  unfolding unless_refused
  either_way Q refused done =
      whether Q (first table =? 0) (λ none. done (eqb-true _ 0 none)) (λ some. refused (eqb-false _ 0 some))

  pub not_refused : first table ≡ 0 → unless_refused table rec step ≡ step
  unfolding unless_refused
  not_refused e = rw (eq-eqb _ 0 e)

  pub is_refused : (first table ≡ 0 → ⊥) → unless_refused table rec step ≡ (refuses (first table) leaving rec)
  unfolding unless_refused
  is_refused h = rw (ne_eqb _ 0 h)

  -- as a step's code knows it: by the number that it was given
  pub so_refused : {k : ℕ} {out : Outcome R} → out ≡ (refuses k leaving rec) → k ≡ first table → (k ≡ 0 → ⊥)
      → out ≡ unless_refused table rec step
  so_refused e number given = e ∙ rw number (sym (is_refused (λ none. given (number ∙ none))))

  -- a number whose lines do not apply is not said, if the step done does not say it
  pub never_refused_with : (k : ℕ) → (k ≡ 0 → ⊥) → every (λ r. not (r.no =? k) || not r.applies) table ≡ true
      → (step.answer ≡ refuses k → ⊥) → (unless_refused table rec step).answer ≡ refuses k → ⊥
  never_refused_with k some_number lines not_done =
      either_way (λ out. out.answer ≡ refuses k → ⊥) (λ _ e. never_given k some_number table lines (cc)) (λ _. not_done)

-- a refusal is none of the other answers, what says a word alone sends nothing, and one answer sends one message
pub refused_is_not_given : {A : Type 0} {k : ℕ} {a : Spoken} → refuses k ≡ gives a → A
refused_is_not_given e = let z : ◌≡◌ {A = ℕ} 0 1 = cc in absurd (let o : 0 ≡ 1 = z in omega arith)

pub nothing_is_no_message : {A : Type 0} {m : Message} → nothing ≡ message m → A
nothing_is_no_message e = let z : ◌≡◌ {A = ℕ} 0 1 = cc in absurd (let o : 0 ≡ 1 = z in omega arith)

pub same_message : {m k : Message} → message m ≡ message k → m ≡ k
same_message e = cc

pub word_is_no_message : {A : Type 0} {words : List Field} {m : Message} → speaks words ≡ sends m → A
unfolding sent
word_is_no_message e = nothing_is_no_message (ap sent e)
