-- Where the first line feed stands is where the line ends.
use Rattle.std.proofs.Common.{arith, sym, ◌∙◌}
use Rattle.stepfile.proofs.Feeds.{ends, none_ends, within}
use Rattle.stepfile.proofs.line_length.Goals as goal

pub overflow_add-result : goal.overflow_add-result
overflow_add-result c = let w = within c.args.s.now c.in-Some.end (sym c.line_feed.ensures ∙ c.in-Some.is) in omega arith

pub returns-in-Some : goal.returns-in-Some
returns-in-Some c = sym (ends c.args.s.now c.in-Some.end (sym c.line_feed.ensures ∙ c.in-Some.is))

pub returns-in-None : goal.returns-in-None
returns-in-None c = sym (none_ends c.args.s.now (sym c.line_feed.ensures ∙ c.in-None.is))
