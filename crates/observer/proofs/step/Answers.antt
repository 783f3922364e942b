-- `observer::step` meets its contract: it does the plan, which is then the step of the rules.
use Rattle.std.proofs.Common.{Ok, Err}
use Rattle.messages.specs.Answers.{said}
use Rattle.observer.proofs.Doing.{step_done}
use Rattle.observer.proofs.step.Goals as goal

pub returns-in-Ok : goal.returns-in-Ok
unfolding said
returns-in-Ok c =
    let a = c.args in rw c.left_by.ensures (step_done a.s a.o a.x a.reading a.event (Ok c.in-Ok.plan) c.in-Ok.ensures)

pub returns-in-Err : goal.returns-in-Err
unfolding said
returns-in-Err c =
    let a = c.args in step_done a.s a.o a.x a.reading a.event (Err c.in-Err.refusal) c.in-Err.ensures
