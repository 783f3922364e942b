-- The claims on step files: each contract gives its outcome outright, or by what the answer says.
use Rattle.std.proofs.Common.{refl, sym, ap, ◌∙◌}
use Rattle.refusals.proofs.Results.{said_in_apart}
use Rattle.settled.proofs.files_settled.Goals as goal

pub returns : goal.returns
returns c = record {
  read_settings_line = λ _ _ _ _ _ _ p q. (p ∙ sym q, refl);
  read_step_line = λ _ _ _ _ _ _ p q. (p ∙ sym q, refl);
  write_answer = λ _ _ _ _ _ _ p q. (said_in_apart (p.0 ∙ sym q.0), ap (λ out. (tt, (out, tt))) (p.1 ∙ sym q.1));
  write_step_answer = λ _ _ _ _ _ _ p q. (said_in_apart (p.0 ∙ sym q.0), ap (λ out. (tt, (out, tt))) (p.1 ∙ sym q.1));
  write_settings_answer =
      λ _ _ _ _ _ _ p q. (said_in_apart (p.0 ∙ sym q.0), ap (λ out. (tt, (out, tt))) (p.1 ∙ sym q.1));
  start = λ _ _ _ _ _ _ p q. (p ∙ sym q, refl);
  observer_at = λ _ _ _ _ _ _ p q. (p ∙ sym q, refl);
  with_observer = λ _ _ _ _ _ _ p q. (p ∙ sym q, refl);
  answer_file = λ _ _ _ _ _ _ p q. (said_in_apart (p.0 ∙ sym q.0), ap (λ out. (tt, (out, tt))) (p.1 ∙ sym q.1));
}
