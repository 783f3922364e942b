-- `observer::Turn::accept_cut`: where its request is accepted, 9 decides. The lemma is cited with its arguments, which the search
-- does not find within its limits.
use Rattle.std.proofs.Common.{rules}
use Rattle.observer.proofs.Tables.{cut_decides}
use Rattle.observer.proofs.Turn.accept_cut.Goals as goal

pub returns-then-stores-gt2 : goal.returns-then-stores-gt2
returns-then-stores-gt2 c =
    let a = c.args in
    search (rules, cut_decides a.self.s a.self.o a.self.x a.self.reading a.counter a.stores c.in_ok-accept_request.ensures)
