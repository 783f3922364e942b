-- A buffer of 680 bytes holds the record of its bytes.
use Prim.Native.Nat.{ℕ}
use mathlib.Core.Path.{◌≡◌, refl}
use mathlib.Core.List.{List}
use lib.ListN.{length}
use borrow.Author.Tests.{eq-eqb}
use Rattle.recorder_rules.specs.declared.Recorder.{Recorder}
use Rattle.firmware_rules.specs.Bytes.{decoded, encoded}
use Rattle.record_bytes.specs.Held.{record_in, with_record}

module _ (bytes : List ℕ) (full : length bytes ≡ 680) where
  pub held : record_in bytes ≡ decoded bytes
  unfolding record_in
  held = rw (eq-eqb (length bytes) 680 full) refl

  pub held_after : (rec : Recorder) → with_record bytes rec ≡ encoded rec
  unfolding with_record
  held_after rec = rw (eq-eqb (length bytes) 680 full) refl
