-- Determinacy of the public functions of `line_room` and `lines`.
use Rattle.std.specs.Prelude.{refl}
use Rattle.settled.specs.Settled.{Settled}
use Rattle.lines.specs.contracts.read_line as read_line
use Rattle.lines.specs.contracts.write_line as write_line
use Rattle.line_room.specs.contracts.write_word as write_word
use Rattle.line_room.specs.contracts.write_message as write_message
use Rattle.line_room.specs.contracts.write_one as write_one
use Rattle.line_room.specs.contracts.write_two as write_two

pub record LinesSettled : Type 0 where
  pub read_line : Settled read_line.ended (λ M 𝓤. read_line.clauses) refl
  pub write_line : Settled write_line.ended (λ M 𝓤. write_line.clauses) refl
  pub write_word : Settled write_word.ended (λ M 𝓤. write_word.clauses) refl
  pub write_message : Settled write_message.ended (λ M 𝓤. write_message.clauses) refl
  pub write_one : Settled write_one.ended (λ M 𝓤. write_one.clauses) refl
  pub write_two : Settled write_two.ended (λ M 𝓤. write_two.clauses) refl
