-- `settings::slacks_within` meets its contract: each slack is one difference, read back as it was computed.
use Rattle.settings.proofs.Signed.{read_back}
use Rattle.settings.proofs.Laws.{slack_a_difference, slack_b_difference}
use Rattle.settings.proofs.slacks_within.Goals as goal

pub returns : goal.returns
returns c =
    rw (
      slack_a_difference c.args.s,
      slack_b_difference c.args.s,
      read_back _ _ c.difference.type_inv c.difference.ensures,
      read_back _ _ c.difference-2.type_inv c.difference-2.ensures,
      read_back _ _ c.difference-3.type_inv c.difference-3.ensures,
      c.rounding_of-rounding.ensures,
    )
