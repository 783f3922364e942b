-- What a standby can answer, within any window.
use Prim.Native.Nat.{ℕ}
use Rattle.words.specs.Said.{Said}
use Rattle.settings.specs.declared.Settings.{Settings}
use Rattle.messages.specs.declared.Message.TheVariants.{Check}
use Rattle.messages.specs.Answers.{Spoken, refuses, sends, says, says_of}
use Rattle.messages.specs.Outcomes.{Outcome}
use Rattle.standby_rules.specs.declared.Standby.{Standby}
use Rattle.standby_rules.specs.declared.StandbyEvent.{StandbyEvent}
use Rattle.standby_rules.specs.Standby.{keeping, step_within}
use Rattle.standby_rules.proofs.Verdicts.{by_verdict}
use Rattle.standby_rules.proofs.Ways.{Way, way}
use Rattle.standby_rules.proofs.Ways.Way.{refusing, beginning, expiring, staying, closing, counting}

pub data StandbySays : Said Spoken → Type 0 where
  refused : (k : ℕ) → StandbySays (refuses k)
  checks : (ts : ℕ) → StandbySays (sends (Check ts))
  waiting : StandbySays (says "waiting")
  late : StandbySays (says "late")
  unknown : StandbySays (says "unknown")
  dead : (m : ℕ) → StandbySays (says_of "dead" m)
  alive : (m : ℕ) → StandbySays (says_of "alive" m)

pub standby_says : (w : ℕ) (s : Settings) (q : Standby) (r : ℕ) (event : StandbyEvent)
    → StandbySays (step_within w s q r event).answer
standby_says w s q r event = by (way w s q r event)
  where
    by : {event : StandbyEvent} {out : Outcome Standby} → Way w s q r event out → StandbySays out.answer
    by (refusing _ k) = refused k
    by beginning = checks r
    by (expiring _ _) = late
    by (staying _ _) = waiting
    by (closing x cnt status _ _) =
        by_verdict StandbySays (keeping x cnt status q.places) (λ _. unknown) (λ _ _. dead _) (λ _ _. alive _)
    by (counting _ _ _ _) = waiting
