-- The claims on `fields` and `decimals`: each contract gives its outcome outright.
use Rattle.std.proofs.Common.{refl, sym, ap, ◌∙◌}
use Rattle.settled.proofs.fields_settled.Goals as goal

pub returns : goal.returns
returns c = record {
  read_number = λ _ _ _ _ _ _ p q. (p ∙ sym q, refl);
  digit_count = λ _ _ _ _ _ _ p q. (p ∙ sym q, refl);
  put_number = λ _ _ _ _ _ _ p q. (p.0 ∙ sym q.0, ap (λ out. (out, (tt, (tt, tt)))) (p.1 ∙ sym q.1));
  put_bytes = λ _ _ _ _ _ _ p q. (p.0 ∙ sym q.0, ap (λ out. (out, (tt, (tt, tt)))) (p.1 ∙ sym q.1));
  agreement = λ _ _ _ _ _ _ p q. (p ∙ sym q, refl);
  starts = λ _ _ _ _ _ _ p q. (p ∙ sym q, refl);
  is_exactly = λ _ _ _ _ _ _ p q. (p ∙ sym q, refl);
  part_from = λ _ _ _ _ _ _ p q. (p ∙ sym q, refl);
  after = λ _ _ _ _ _ _ p q. (p ∙ sym q, refl);
}
