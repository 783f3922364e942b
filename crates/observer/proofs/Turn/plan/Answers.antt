-- `observer::Turn::plan`: where nothing is refused, settings and reading are in range, so that the deadline does not wrap.
use Rattle.std.proofs.Common.{arith, sym}
use Rattle.settings.proofs.Laws.{accepted_in_range}
use Rattle.observer.proofs.Doing.{accepted}
use Rattle.observer.proofs.Turn.plan.Goals as goal

pub overflow_add-result : goal.overflow_add-result
overflow_add-result c =
    let a = c.args in
    let known = accepted a.self.s a.self.o a.self.x a.self.reading a.event (sym c.in_ok-accept.ensures) in
    let range = accepted_in_range a.self.s known.0 in
    omega (arith, known.1)
