-- `settings::slacks_of` meets its contract.
use Rattle.std.proofs.Common.{sym, ◌∙◌}
use Rattle.settings.specs.Answers.{slacks_of}
use Rattle.settings.proofs.Laws.{in_range_lem}
use Rattle.settings.proofs.slacks_of.Goals as goal

pub slacks_within-requires : goal.slacks_within-requires
slacks_within-requires c = in_range_lem _ (sym c.in_range.ensures ∙ c.if-not-in_range.false)

pub returns-then-not-in_range : goal.returns-then-not-in_range
unfolding slacks_of
returns-then-not-in_range c = rw (← c.in_range.ensures, c.if-not-in_range.true)

pub returns : goal.returns
unfolding slacks_of
returns c = rw (← c.in_range.ensures, c.if-not-in_range.false, c.slacks_within.ensures)
