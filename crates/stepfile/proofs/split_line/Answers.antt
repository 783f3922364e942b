-- The line lies within what it is the front of.
use Rattle.std.proofs.Common.{arith, ap, ◌∙◌, take, drop}
use Rattle.stepfile_rules.proofs.Lines.{line_within}
use Rattle.stepfile.proofs.split_line.Goals as goal

pub split_at-requires : goal.split_at-requires
split_at-requires c = omega (arith, c.line_length.ensures, line_within c.args.s.now)

pub returns : goal.returns
returns c =
    let front = ap (λ k. take k c.args.s.now) c.line_length.ensures in
    let back = ap (λ k. drop k c.args.s.now) c.line_length.ensures in
    (c.split_at.ensures.front ∙ front, c.split_at.ensures.back ∙ back)
