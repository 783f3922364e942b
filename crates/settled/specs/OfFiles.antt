-- Determinacy of the public functions of `step_lines`, `answer_lines`, `session` and `stepfile`.
use Rattle.std.specs.Prelude.{refl}
use Rattle.settled.specs.Settled.{Settled}
use Rattle.step_lines.specs.contracts.read_settings_line as read_settings_line
use Rattle.step_lines.specs.contracts.read_step_line as read_step_line
use Rattle.answer_lines.specs.contracts.write_answer as write_answer
use Rattle.answer_lines.specs.contracts.write_step_answer as write_step_answer
use Rattle.answer_lines.specs.contracts.write_settings_answer as write_settings_answer
use Rattle.session.specs.contracts.start as start
use Rattle.session.specs.contracts.observer_at as observer_at
use Rattle.session.specs.contracts.with_observer as with_observer
use Rattle.stepfile.specs.contracts.answer_file as answer_file

pub record FilesSettled : Type 0 where
  pub read_settings_line : Settled read_settings_line.ended (λ M 𝓤. read_settings_line.clauses) refl
  pub read_step_line : Settled read_step_line.ended (λ M 𝓤. read_step_line.clauses) refl
  pub write_answer : Settled write_answer.ended (λ M 𝓤. write_answer.clauses) refl
  pub write_step_answer : Settled write_step_answer.ended (λ M 𝓤. write_step_answer.clauses) refl
  pub write_settings_answer : Settled write_settings_answer.ended (λ M 𝓤. write_settings_answer.clauses) refl
  pub start : Settled start.ended (λ M 𝓤. start.clauses) refl
  pub observer_at : Settled observer_at.ended (λ M 𝓤. observer_at.clauses) refl
  pub with_observer : Settled with_observer.ended (λ M 𝓤. with_observer.clauses) refl
  pub answer_file : Settled answer_file.ended (λ M 𝓤. answer_file.clauses) refl
