-- The line stands behind the 0 where both fit.
use Rattle.std.proofs.Common.{◌≡◌, sym, ap, Err, ◌∙◌, ◌++◌, arith}
use Rattle.words.specs.Lists.{text}
use Rattle.refusals.specs.Refusals.{number_of, said_in}
use Rattle.lines_rules.specs.Writing.{line_of}
use Rattle.lines_rules.proofs.Lines.{short_said, short_room}
use Rattle.answer_lines.proofs.Lines.{sent_line}
use Rattle.answer_lines.proofs.Behind.{written, refused_behind}
use Rattle.answer_lines.proofs.write_sent.Goals as goal

pub returns-then-out-lt2 : goal.returns-then-out-lt2
returns-then-out-lt2 c =
    let a = c.args in
    let line = text "0\t" ++ line_of a.m in
    rw (sent_line a.m) (sym (short_said line a.out.now (omega arith)), sym (short_room line a.out.now (omega arith)))

pub returns-in_err-length : goal.returns-in_err-length
returns-in_err-length c =
    let a = c.args in
    let passed : c.from_residual.result ≡ Err c.in_err-length.field-0.0 = grind arith in
    let said = sym (ap said_in c.in_err-length.was) ∙ c.write_message.ensures.0 in
    let p = refused_behind a.out.now (line_of a.m) _ (number_of c.in_err-length.field-0.0) c.if-out-lt2.false said c.write_message.ensures.1 in
    rw (sent_line a.m) (ap said_in passed ∙ p.0, p.1)

pub overflow_add-result : goal.overflow_add-result
overflow_add-result c =
    let a = c.args in
    let said = sym (ap said_in c.in_ok-length.was) ∙ c.write_message.ensures.0 in
    let p = written a.out.now (line_of a.m) _ c.if-out-lt2.false said c.write_message.ensures.1 c.put_bytes.ensures.0 c.put_bytes.ensures.1 in
    omega (arith, p.sized, c.well_formed)

pub returns : goal.returns
returns c =
    let a = c.args in
    let said = sym (ap said_in c.in_ok-length.was) ∙ c.write_message.ensures.0 in
    let p = written a.out.now (line_of a.m) _ c.if-out-lt2.false said c.write_message.ensures.1 c.put_bytes.ensures.0 c.put_bytes.ensures.1 in
    rw (sent_line a.m) (p.said, p.holds)
