-- `standby::Turn::accept_ack`: where the record is accepted and no such observer is there, 5 decides. The lemma is cited with its
-- arguments, which the search does not find within its limits.
use Rattle.std.proofs.Common.{rules}
use Rattle.words.specs.Said.{first}
use Rattle.standby.proofs.Tables.{ack_decides}
use Rattle.standby.proofs.Turn.accept_ack.Goals as goal

pub returns-then-self-observer : goal.returns-then-self-observer
unfolding first
returns-then-self-observer c =
    let a = c.args in
    search (rules, ack_decides a.self.s a.self.q a.self.reading a.observer a.ts a.counter c.in_ok-accept_record.ensures)
