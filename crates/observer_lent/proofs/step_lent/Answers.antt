-- `observer_lent::step_lent` meets its contract: the plan, once it is done on the lent record, is the step of the rules.
use Rattle.std.proofs.Common.{Ok, Err, rules}
use Rattle.messages.specs.Answers.{said}
use Rattle.observer.proofs.Doing.{step_done}
use Rattle.observer_lent.proofs.step_lent.Goals as goal

pub returns-in_err-plan : goal.returns-in_err-plan
unfolding said
returns-in_err-plan c =
    let a = c.args in
    let h = step_done a.s a.o.now a.x a.reading a.event (Err c.in_err-plan.field-0.0) c.in_err-plan.ensures in
    search (rules, h)

pub returns : goal.returns
unfolding said
returns c =
    let a = c.args in
    rw (c.set_last_reading.ensures, c.store_first.ensures)
    (step_done a.s a.o.now a.x a.reading a.event (Ok c.in_ok-plan.plan) c.in_ok-plan.ensures)
