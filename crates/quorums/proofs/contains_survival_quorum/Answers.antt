-- `quorums::contains_survival_quorum` meets its contract.
use Rattle.std.proofs.Common.{rules, ◌≡◌, length}
use Rattle.quorums.specs.Quorums.{survives}
use Rattle.quorums.proofs.Quorums.{members_counted}
use Rattle.quorums.proofs.contains_survival_quorum.Goals as goal

pub returns : goal.returns
unfolding survives
returns c =
    let marks : length c.args.set ≡ 16 = search rules in
    rw (c.before.count_members.ensures, members_counted c.args.s c.args.set marks)
