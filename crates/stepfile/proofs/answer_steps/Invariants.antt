-- Each turn performs one line and writes its answer behind those before it.
use lib.ListN.{length}
use Rattle.session.specs.Session.{started}
use Rattle.stepfile_rules.proofs.Steps.{session_of, Gone}
use Rattle.stepfile.proofs.answer_steps.Given as goal

abbrev pub invariant-loop-rest : goal.invariant-loop-rest
invariant-loop-rest l = Gone l.lines l.initial.out l.begin (started l.s) l.out (session_of l.s l.rec l.observers l.asking) l.rest l.at

abbrev pub decreases-loop-rest : goal.decreases-loop-rest
decreases-loop-rest l = length l.rest
