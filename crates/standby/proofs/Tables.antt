-- The refusals of an ack, as code knows them that asks for those of the record by a call and `?`: what refuses the record refuses
-- the ack, and where the record is accepted the lines from 4 on decide.
use Prim.Native.Nat.{ℕ}
use mathlib.Core.Path.{◌≡◌, refl}
use mathlib.Core.Bool.{◌||◌, not}
use mathlib.Core.List.{List, [], ◌∷◌, ◌++◌}
use Rattle.words.specs.Tests.{◌<?◌, ◌≤?◌, ◌=?◌}
use Rattle.words.specs.Said.{Refusal as Line, first, ◌when◌}
use Rattle.refusals.specs.declared.Refusal.{Refusal}
use Rattle.refusals.specs.Refusals.{number_of}
use Rattle.refusals.proofs.Tables.{refused_before, accepted_before}
use Rattle.settings.specs.declared.Settings.{Settings}
use Rattle.settings.specs.Settings.{n, refusals}
use Rattle.messages.specs.Messages.{top_counter, top_reading}
use Rattle.messages.specs.Outcomes.{bad_reading}
use Rattle.standby_rules.specs.declared.Standby.{Standby}
use Rattle.standby_rules.specs.Standby.{has_open_round, last_reading_of, has_form, ack_refusals}

module _ (s : Settings) (q : Standby) (r x ts cnt : ℕ) where
  abbrev of_record : List Line
  of_record = refusals s ++ (3 when not (has_form s q) ∷ [])

  abbrev of_ack : List Line
  of_ack =
      4 when (bad_reading (last_reading_of q) r || (top_reading <? ts))
      ∷ 5 when (n s ≤? x)
      ∷ 6 when (top_counter <? cnt)
      ∷ 7 when not (has_open_round q)
      ∷ 8 when not (ts =? q.ts)
      ∷ []

  pub ack_refused : (e : Refusal) → number_of e ≡ first of_record → number_of e ≡ first (ack_refusals s q r x ts cnt)
  ack_refused = refused_before of_record of_ack refl

  pub ack_decides : 0 ≡ first of_record → first of_ack ≡ first (ack_refusals s q r x ts cnt)
  ack_decides = accepted_before of_record of_ack refl
