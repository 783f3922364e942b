-- Whatever a line's step answers is one of the answers: a refusal, a message, or one of their words.
use Rattle.std.specs.Prelude.{Option, Some, None}
use Prim.Native.Nat.{ℕ}
use Rattle.words.specs.Said.{Said}
use Rattle.messages.specs.declared.Message.TheVariants.{LeaseRequest, LeaseGrant, Check, CheckAck}
use Rattle.messages.specs.declared.Answer.{Answer}
use Rattle.messages.specs.declared.Answer.TheVariants.{Send, Say}
use Rattle.messages.specs.declared.Word.TheVariants.{Unregistered, Running, Stopped, Silent, Cut, Waiting, Late, Unknown, Dead, Alive}
use Rattle.messages.specs.Answers.{Spoken, refuses, given, words_of}
use Rattle.recorder_rules.proofs.Answers.{RecorderSays as R, recorder_says}
use Rattle.observer_rules.proofs.Answers.{ObserverSays as O, observer_says}
use Rattle.standby_rules.proofs.Answers.{StandbySays as Q, standby_says}
use Rattle.step_lines.specs.declared.StepLine.{StepLine}
use Rattle.step_lines.specs.declared.StepLine.TheVariants as line
use Rattle.session.specs.declared.Session.{Session}
use Rattle.session.specs.Session.{with_recorder, with_observer, with_standby, perform_of}

pub data IsAnswer : Said Spoken → Type 0 where
  refuses_by : (k : ℕ) → IsAnswer (refuses k)
  gives_it : (a : Answer) → IsAnswer (given a)

of_recorder : {x : Said Spoken} → R x → IsAnswer x
unfolding given words_of
of_recorder (R.refused k) = refuses_by k
of_recorder R.stopped = gives_it (Say Stopped)
of_recorder R.running = gives_it (Say Running)
of_recorder R.unregistered = gives_it (Say Unregistered)
of_recorder (R.requests c) = gives_it (Send (LeaseRequest c))

of_observer : {x : Said Spoken} → O x → IsAnswer x
unfolding given words_of
of_observer (O.refused k) = refuses_by k
of_observer (O.grants c) = gives_it (Send (LeaseGrant c))
of_observer O.silent = gives_it (Say Silent)
of_observer O.cut = gives_it (Say Cut)
of_observer (O.acks ts cnt status) = gives_it (Send (CheckAck ts cnt status))

of_standby : {x : Said Spoken} → Q x → IsAnswer x
unfolding given words_of
of_standby (Q.refused k) = refuses_by k
of_standby (Q.checks ts) = gives_it (Send (Check ts))
of_standby Q.waiting = gives_it (Say Waiting)
of_standby Q.late = gives_it (Say Late)
of_standby Q.unknown = gives_it (Say Unknown)
of_standby (Q.dead m) = gives_it (Say (Dead m))
of_standby (Q.alive m) = gives_it (Say (Alive m))

pub performed : (session : Session) (l : Option StepLine) → IsAnswer (perform_of session l).answer
unfolding perform_of with_recorder with_observer with_standby
performed session (Some (line.Recorder r event)) = of_recorder (recorder_says _ _ r event)
performed session (Some (line.Observer x r event)) = of_observer (observer_says _ _ x r event)
performed session (Some (line.Standby r event)) = of_standby (standby_says _ _ _ r event)
performed session None = refuses_by 9
