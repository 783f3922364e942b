-- `settings::accept` meets its contract: settings that are not in range have no slacks, and the test is that of the slacks.
use Rattle.std.proofs.Common.{rules}
use Rattle.settings.proofs.Laws.{without_slacks, by_slacks}
use Rattle.settings.proofs.accept.Goals as goal

pub returns-in_err-slacks : goal.returns-in_err-slacks
returns-in_err-slacks c = search (rules, without_slacks c.args.s c.in_err-slacks.ensures)

pub returns-then-has_negative : goal.returns-then-has_negative
returns-then-has_negative c = rw (by_slacks c.args.s c.in_ok-slacks.ensures, ← c.has_negative.ensures, c.if-has_negative.true)

pub returns : goal.returns
returns c = rw (by_slacks c.args.s c.in_ok-slacks.ensures, ← c.has_negative.ensures, c.if-has_negative.false)
