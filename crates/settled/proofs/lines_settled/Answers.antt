-- The claims on `line_room` and `lines`: each contract gives its outcome by what the answer says, and the room outright.
use Rattle.std.proofs.Common.{refl, sym, ap, ◌∙◌}
use Rattle.refusals.proofs.Results.{said_in_apart}
use Rattle.settled.proofs.lines_settled.Goals as goal

pub returns : goal.returns
returns c = record {
  read_line = λ _ _ _ _ _ _ p q. (said_in_apart (p ∙ sym q), refl);
  write_line = λ _ _ _ _ _ _ p q. (said_in_apart (p.0 ∙ sym q.0), ap (λ out. (tt, (out, tt))) (p.1 ∙ sym q.1));
  write_word = λ _ _ _ _ _ _ p q. (said_in_apart (p.0 ∙ sym q.0), ap (λ out. (tt, (out, tt))) (p.1 ∙ sym q.1));
  write_message = λ _ _ _ _ _ _ p q. (said_in_apart (p.0 ∙ sym q.0), ap (λ out. (tt, (out, tt))) (p.1 ∙ sym q.1));
  write_one = λ _ _ _ _ _ _ p q. (said_in_apart (p.0 ∙ sym q.0), ap (λ out. (tt, (tt, (out, tt)))) (p.1 ∙ sym q.1));
  write_two =
      λ _ _ _ _ _ _ p q. (said_in_apart (p.0 ∙ sym q.0), ap (λ out. (tt, (tt, (tt, (tt, (out, tt)))))) (p.1 ∙ sym q.1));
}
