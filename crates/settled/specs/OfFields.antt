-- Determinacy of the public functions of `fields` and `decimals`.
use Rattle.std.specs.Prelude.{◌≡◌, refl, option_copied}
use Rattle.settled.specs.Settled.{Settled, SettledBy}
use Rattle.decimals.specs.contracts.read_number as read_number
use Rattle.decimals.specs.contracts.digit_count as digit_count
use Rattle.decimals.specs.contracts.put_number as put_number
use Rattle.fields.specs.contracts.put_bytes as put_bytes
use Rattle.fields.specs.contracts.agreement as agreement
use Rattle.fields.specs.contracts.starts as starts
use Rattle.fields.specs.contracts.is_exactly as is_exactly
use Rattle.fields.specs.contracts.part_from as part_from
use Rattle.fields.specs.contracts.after as after

pub record FieldsSettled : Type 0 where
  pub read_number : Settled read_number.ended (λ M 𝓤. read_number.clauses) refl
  pub digit_count : Settled digit_count.ended (λ M 𝓤. digit_count.clauses) refl
  pub put_number : Settled put_number.ended (λ M 𝓤. put_number.clauses) refl
  pub put_bytes : Settled put_bytes.ended (λ M 𝓤. put_bytes.clauses) refl
  pub agreement : Settled agreement.ended (λ M 𝓤. agreement.clauses) refl
  pub starts : Settled starts.ended (λ M 𝓤. starts.clauses) refl
  pub is_exactly : Settled is_exactly.ended (λ M 𝓤. is_exactly.clauses) refl
  -- The results are references: settled are the bytes that they refer to. The contracts do not say where they lie.
  pub part_from : SettledBy part_from.ended (λ κs x x'. x.now ≡ x'.now) (λ M 𝓤. part_from.clauses) refl
  pub after : SettledBy after.ended (λ κs x x'. option_copied x ≡ option_copied x') (λ M 𝓤. after.clauses) refl
