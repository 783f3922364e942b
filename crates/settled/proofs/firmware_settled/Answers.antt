-- The claims on `record_bytes` and `firmware`: each contract gives record or number, and bytes, outright.
use Rattle.std.proofs.Common.{refl, sym, ap, ◌∙◌}
use Rattle.settled.proofs.firmware_settled.Goals as goal

pub returns : goal.returns
returns c = record {
  record_in = λ _ _ _ _ _ _ p q. (p ∙ sym q, refl);
  put_record = λ _ _ _ _ _ _ p q. (refl, ap (λ out. (out, (tt, tt))) (p ∙ sym q));
  recorder_tick = λ _ _ _ _ _ _ p q. (p.0 ∙ sym q.0, ap (λ out. (tt, (tt, (out, tt)))) (p.1 ∙ sym q.1));
  recorder_grant = λ _ _ _ _ _ _ p q. (p.0 ∙ sym q.0, ap (λ out. (tt, (tt, (tt, (tt, (out, tt)))))) (p.1 ∙ sym q.1));
  recorder_drive = λ _ _ _ _ _ _ p q. (p.0 ∙ sym q.0, ap (λ out. (tt, (tt, (out, tt)))) (p.1 ∙ sym q.1));
}
