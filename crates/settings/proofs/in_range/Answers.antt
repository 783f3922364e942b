-- `settings::in_range` meets its contract: the rows stand beside their values.
use Rattle.std.proofs.Common.{rules}
use Rattle.settings.specs.Settings.{in_range, ranges, values}
use Rattle.settings.proofs.Laws.{each_zipped}
use Rattle.settings.proofs.in_range.Goals as goal

pub returns : goal.returns
unfolding in_range ranges
returns c = rw (each_zipped ranges (values c.args.s)) (search rules)
