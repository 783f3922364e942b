-- Determinacy of the public functions of `record_bytes` and of the C calls of `firmware`: the record or the number, and every
-- byte of the buffer.
use Rattle.std.specs.Prelude.{refl}
use Rattle.settled.specs.Settled.{Settled}
use Rattle.record_bytes.specs.contracts.record_in as record_in
use Rattle.record_bytes.specs.contracts.put_record as put_record
use Rattle.firmware.specs.contracts.recorder_tick as recorder_tick
use Rattle.firmware.specs.contracts.recorder_grant as recorder_grant
use Rattle.firmware.specs.contracts.recorder_drive as recorder_drive

pub record FirmwareSettled : Type 0 where
  pub record_in : Settled record_in.ended (λ M 𝓤. record_in.clauses) refl
  pub put_record : Settled put_record.ended (λ M 𝓤. put_record.clauses) refl
  pub recorder_tick : Settled recorder_tick.ended (λ M 𝓤. recorder_tick.clauses) refl
  pub recorder_grant : Settled recorder_grant.ended (λ M 𝓤. recorder_grant.clauses) refl
  pub recorder_drive : Settled recorder_drive.ended (λ M 𝓤. recorder_drive.clauses) refl
