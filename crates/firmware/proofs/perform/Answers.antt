-- A buffer of another size is refused; any other is the step's: a refusal leaves the bytes, any other answer the record's.
use Rattle.std.proofs.Common.{rules}
use Prim.Native.Nat.{ℕ}
use mathlib.Core.Path.{◌≡◌, refl, ◌∙◌}
use mathlib.Core.List.{List}
use lib.ListN.{length}
use borrow.Author.Tests.{ne_eqb}
use Rattle.std.proofs.Common.{Result, Err}
use Rattle.refusals.specs.declared.Refusal.{Refusal}
use Rattle.refusals.specs.Refusals.{number_of}
use Rattle.refusals.proofs.Apart.{some_number}
use Rattle.settings.specs.declared.Settings.{Settings}
use Rattle.settings.specs.Settings.{refusal_of}
use Rattle.messages.specs.declared.Answer.{Answer}
use Rattle.messages.specs.Answers.{said}
use Rattle.recorder_rules.specs.declared.RecorderEvent.{RecorderEvent}
use Rattle.firmware_rules.specs.Bytes.{record_bytes}
use Rattle.firmware_rules.specs.Calls.{code_of, left_by, called, Called}
use Rattle.firmware_rules.proofs.Calls.{full_size, other_size}
use Rattle.record_bytes.proofs.Held.{held, held_after}
use Rattle.firmware.proofs.perform.Goals as goal

-- what a call returns and leaves
abbrev Leaves : Result Answer Refusal → List ℕ → Called → Type 0
Leaves answer bytes done = (code_of (said answer) ≡ done.code) × (bytes ≡ done.bytes)

module _ (s : Settings) (bytes : List ℕ) (reading : ℕ) (event : RecorderEvent) where
  -- the settings are refused before the size of the buffer
  settings_refused : (length bytes ≡ record_bytes → ⊥) → (r : Refusal) → number_of r ≡ refusal_of s
      → Leaves (Err r) bytes (called s bytes reading event)
  unfolding code_of said
  settings_refused size r e = rw (other_size s bytes reading event size, ← e, ne_eqb _ 0 (some_number r)) (refl, refl)

  size_refused : (length bytes ≡ record_bytes → ⊥) → 0 ≡ refusal_of s
      → Leaves (Err Refusal.WrongRoom) bytes (called s bytes reading event)
  unfolding code_of said
  size_refused size e = rw (other_size s bytes reading event size, ← e) (refl, refl)

pub returns-in_err-accept : goal.returns-in_err-accept
returns-in_err-accept c =
    search (rules, settings_refused c.args.s c.args.buffer.now c.args.reading c.args.event c.if-buffer-ne-RECORD_BYTES.true _ c.in_err-accept.ensures)

pub returns-then-buffer-ne-RECORD_BYTES : goal.returns-then-buffer-ne-RECORD_BYTES
returns-then-buffer-ne-RECORD_BYTES c =
    size_refused c.args.s c.args.buffer.now c.args.reading c.args.event c.if-buffer-ne-RECORD_BYTES.true c.in_ok-accept.ensures

pub returns-then-is_refused : goal.returns-then-is_refused
unfolding left_by
returns-then-is_refused c =
    let full = c.if-buffer-ne-RECORD_BYTES.false in
    rw (
      full_size c.args.s c.args.buffer.now c.args.reading c.args.event full,
      ← (c.record_in-rec.ensures ∙ held c.args.buffer.now full),
      ← c.step-done.ensures,
      ← c.is_refused.ensures,
      c.if-is_refused.true,
    )
    (refl, refl)

pub returns : goal.returns
unfolding left_by
returns c =
    let full = c.if-buffer-ne-RECORD_BYTES.false in
    rw (
      full_size c.args.s c.args.buffer.now c.args.reading c.args.event full,
      ← (c.record_in-rec.ensures ∙ held c.args.buffer.now full),
      ← c.step-done.ensures,
      ← c.is_refused.ensures,
      c.if-is_refused.false,
    )
    (refl, c.put_record.ensures ∙ held_after _ full _)
