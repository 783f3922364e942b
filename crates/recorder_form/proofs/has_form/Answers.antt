-- `recorder_form::has_form` meets its contract: the conditions that it joins are those of the form.
use mathlib.Core.Path.{sym}
use Rattle.recorder_form.proofs.Coded.{as_coded, too_many}
use Rattle.recorder_form.proofs.Spaced.{in_pairs}
use Rattle.settings.specs.Settings.{η}
use Rattle.recorder_rules.specs.Recorder.{leases}
use Rattle.recorder_form.proofs.has_form.Goals as goal

pub returns-then-rec : goal.returns-then-rec
returns-then-rec c = sym (too_many _ _ c.if-rec.true)

pub returns : goal.returns
returns c =
    rw (
      c.saturating_sub-newest.ensures,
      c.are_unused.ensures,
      c.are_unused-2.ensures,
      c.are_at_most.ensures,
      c.are_apart.ensures,
      in_pairs (η c.args.s) (leases c.args.rec),
      c.less.ensures,
      c.are_young.ensures,
    )
    (sym (as_coded c.args.s c.args.rec c.if-rec.false))
