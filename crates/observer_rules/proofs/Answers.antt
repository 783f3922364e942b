-- What an observer can answer.
use Prim.Native.Nat.{ℕ}
use Rattle.words.specs.Said.{Said}
use Rattle.settings.specs.declared.Settings.{Settings}
use Rattle.messages.specs.declared.Status.{Status}
use Rattle.messages.specs.declared.Message.TheVariants.{LeaseGrant, CheckAck}
use Rattle.messages.specs.Answers.{Spoken, refuses, sends, says}
use Rattle.messages.specs.Outcomes.{Outcome}
use Rattle.observer_rules.specs.declared.Observer.{Observer}
use Rattle.observer_rules.specs.declared.ObserverEvent.{ObserverEvent}
use Rattle.observer_rules.specs.Observer.{step_of}
use Rattle.observer_rules.proofs.Ways.{Way, way}
use Rattle.observer_rules.proofs.Ways.Way.{refusing, granting, idle, cutting, acking}

pub data ObserverSays : Said Spoken → Type 0 where
  refused : (k : ℕ) → ObserverSays (refuses k)
  grants : (c : ℕ) → ObserverSays (sends (LeaseGrant c))
  silent : ObserverSays (says "silent")
  cut : ObserverSays (says "cut")
  acks : (ts cnt : ℕ) (status : Status) → ObserverSays (sends (CheckAck ts cnt status))

pub observer_says : (s : Settings) (o : Observer) (x r : ℕ) (event : ObserverEvent) → ObserverSays (step_of s o x r event).answer
observer_says s o x r event = by (way s o x r event)
  where
    by : {event : ObserverEvent} {out : Outcome Observer} → Way s o x r event out → ObserverSays out.answer
    by (refusing event k) = refused k
    by (granting c _ _ _) = grants c
    by (idle c) = silent
    by (cutting c k _) = cut
    by (acking ts _ _ _) = acks ts _ _
