-- `quorums::contains_query_quorum` meets its contract: more than n - t are n - t + 1 at least.
use Rattle.std.proofs.Common.{rules, ◌≡◌, length}
use native.Mathlib.Numerals.{add-one}
use Rattle.quorums.specs.Quorums.{closes}
use Rattle.quorums.proofs.Quorums.{members_counted}
use Rattle.quorums.proofs.contains_query_quorum.Goals as goal

pub returns : goal.returns
unfolding closes
returns c =
    let marks : length c.args.set ≡ 16 = search rules in
    rw (c.before.less.ensures, c.count_members.ensures, members_counted c.args.s c.args.set marks, add-one)
