-- The 0, the four values and the line feed are put behind one another, if all of them fit.
use Prim.Native.Nat.{◌≤◌, ◌<◌}
use native.Mathlib.Omega.{arith}
use borrow.Author.Rules.{rules}
use mathlib.Core.Path.{◌≡◌, sym, ap, ◌∙◌}
use lib.ListN.{length}
use Rattle.std.specs.Prelude.{unsigned_abs}
use Rattle.words.specs.Said.Said.{gives}
use Rattle.decimals.proofs.Digits.{digits_twenty}
use Rattle.lines_rules.proofs.Lines.{fits_said, fits_room, short_said, short_room}
use Rattle.answer_lines.proofs.Values.{whole, whole_length, enough, room_for_W, room_for_a, room_for_b, room_for_c, put_zero, W_put, a_put, b_put, put_c, put_end}
use Rattle.answer_lines.proofs.write_values.Goals as goal

pub overflow_add-numbers : goal.overflow_add-numbers
overflow_add-numbers c =
    omega (arith, c.digit_count.ensures, c.digit_count-2.ensures, digits_twenty c.args.accepted.window, digits_twenty c.unsigned_abs-a.result)

pub overflow_add-numbers-2 : goal.overflow_add-numbers-2
overflow_add-numbers-2 c = omega (arith, c.digit_count.ensures, c.digit_count-2.ensures, c.digit_count-3.ensures, digits_twenty c.args.accepted.window, digits_twenty c.unsigned_abs-a.result, digits_twenty c.unsigned_abs-b.result)

pub overflow_add-numbers-3 : goal.overflow_add-numbers-3
overflow_add-numbers-3 c = omega (arith, c.digit_count.ensures, c.digit_count-2.ensures, c.digit_count-3.ensures, c.digit_count-4.ensures, digits_twenty c.args.accepted.window, digits_twenty c.unsigned_abs-a.result, digits_twenty c.unsigned_abs-b.result, digits_twenty c.unsigned_abs-c.result)

pub overflow_add-numbers-4 : goal.overflow_add-numbers-4
overflow_add-numbers-4 c = omega (arith, c.digit_count.ensures, c.digit_count-2.ensures, c.digit_count-3.ensures, c.digit_count-4.ensures, digits_twenty c.args.accepted.window, digits_twenty c.unsigned_abs-a.result, digits_twenty c.unsigned_abs-b.result, digits_twenty c.unsigned_abs-c.result)

pub returns-then-out-numbers : goal.returns-then-out-numbers
returns-then-out-numbers c =
    let a_is : c.unsigned_abs-a.result ≡ unsigned_abs c.args.accepted.slacks.a = search rules in
    let b_is : c.unsigned_abs-b.result ≡ unsigned_abs c.args.accepted.slacks.b = search rules in
    let c_is : c.unsigned_abs-c.result ≡ unsigned_abs c.args.accepted.slacks.c = search rules in
    let room = c.args.out.now in
    let line = whole c.args.accepted.window c.unsigned_abs-a.result c.unsigned_abs-b.result c.unsigned_abs-c.result in
    let short : length room < length line = omega (
      arith,
      whole_length c.args.accepted.window c.unsigned_abs-a.result c.unsigned_abs-b.result c.unsigned_abs-c.result,
      c.digit_count.ensures,
      c.digit_count-2.ensures,
      c.digit_count-3.ensures,
      c.digit_count-4.ensures,
      c.if-out-numbers.true,
    ) in
    rw (← a_is, ← b_is, ← c_is) (sym (short_said line room short), sym (short_room line room short))

pub put_value-a_at-requires : goal.put_value-a_at-requires
put_value-a_at-requires c =
    let room = c.args.out.now in
    let fit = enough c.args.accepted.window c.unsigned_abs-a.result c.unsigned_abs-b.result c.unsigned_abs-c.result room c.digit_count.ensures c.digit_count-2.ensures c.digit_count-3.ensures c.digit_count-4.ensures c.if-out-numbers.false in
    let e0 = c.put_bytes-window_at.ensures in
    room_for_W c.args.accepted.window c.unsigned_abs-a.result c.unsigned_abs-b.result c.unsigned_abs-c.result room fit (put_zero c.args.accepted.window c.unsigned_abs-a.result c.unsigned_abs-b.result c.unsigned_abs-c.result room fit e0.0 e0.1)

pub put_value-b_at-requires : goal.put_value-b_at-requires
put_value-b_at-requires c =
    let room = c.args.out.now in
    let fit = enough c.args.accepted.window c.unsigned_abs-a.result c.unsigned_abs-b.result c.unsigned_abs-c.result room c.digit_count.ensures c.digit_count-2.ensures c.digit_count-3.ensures c.digit_count-4.ensures c.if-out-numbers.false in
    let e0 = c.put_bytes-window_at.ensures in
    let e1 = c.put_value-a_at.ensures in
    room_for_a c.args.accepted.window c.unsigned_abs-a.result c.unsigned_abs-b.result c.unsigned_abs-c.result room fit (W_put c.args.accepted.window c.unsigned_abs-a.result c.unsigned_abs-b.result c.unsigned_abs-c.result room fit e0.0 e0.1 e1.0 e1.1)

pub put_value-c_at-requires : goal.put_value-c_at-requires
put_value-c_at-requires c =
    let room = c.args.out.now in
    let fit = enough c.args.accepted.window c.unsigned_abs-a.result c.unsigned_abs-b.result c.unsigned_abs-c.result room c.digit_count.ensures c.digit_count-2.ensures c.digit_count-3.ensures c.digit_count-4.ensures c.if-out-numbers.false in
    let e0 = c.put_bytes-window_at.ensures in
    let e1 = c.put_value-a_at.ensures in
    let e2 = c.put_value-b_at.ensures in
    room_for_b c.args.accepted.window c.unsigned_abs-a.result c.unsigned_abs-b.result c.unsigned_abs-c.result room fit (a_put c.args.accepted.window c.unsigned_abs-a.result c.unsigned_abs-b.result c.unsigned_abs-c.result room fit e0.0 e0.1 e1.0 e1.1 e2.0 e2.1)

pub put_value-end_at-requires : goal.put_value-end_at-requires
put_value-end_at-requires c =
    let room = c.args.out.now in
    let fit = enough c.args.accepted.window c.unsigned_abs-a.result c.unsigned_abs-b.result c.unsigned_abs-c.result room c.digit_count.ensures c.digit_count-2.ensures c.digit_count-3.ensures c.digit_count-4.ensures c.if-out-numbers.false in
    let e0 = c.put_bytes-window_at.ensures in
    let e1 = c.put_value-a_at.ensures in
    let e2 = c.put_value-b_at.ensures in
    let e3 = c.put_value-c_at.ensures in
    room_for_c c.args.accepted.window c.unsigned_abs-a.result c.unsigned_abs-b.result c.unsigned_abs-c.result room fit (b_put c.args.accepted.window c.unsigned_abs-a.result c.unsigned_abs-b.result c.unsigned_abs-c.result room fit e0.0 e0.1 e1.0 e1.1 e2.0 e2.1 e3.0 e3.1)

pub returns : goal.returns
returns c =
    let a_is : c.unsigned_abs-a.result ≡ unsigned_abs c.args.accepted.slacks.a = search rules in
    let b_is : c.unsigned_abs-b.result ≡ unsigned_abs c.args.accepted.slacks.b = search rules in
    let c_is : c.unsigned_abs-c.result ≡ unsigned_abs c.args.accepted.slacks.c = search rules in
    let room = c.args.out.now in
    let fit = enough c.args.accepted.window c.unsigned_abs-a.result c.unsigned_abs-b.result c.unsigned_abs-c.result room c.digit_count.ensures c.digit_count-2.ensures c.digit_count-3.ensures c.digit_count-4.ensures c.if-out-numbers.false in
    let e0 = c.put_bytes-window_at.ensures in
    let e1 = c.put_value-a_at.ensures in
    let e2 = c.put_value-b_at.ensures in
    let e3 = c.put_value-c_at.ensures in
    let e4 = c.put_value-end_at.ensures in
    let e5 = c.put_bytes.ensures in
    let all = put_end c.args.accepted.window c.unsigned_abs-a.result c.unsigned_abs-b.result c.unsigned_abs-c.result room fit (put_c c.args.accepted.window c.unsigned_abs-a.result c.unsigned_abs-b.result c.unsigned_abs-c.result room fit (b_put c.args.accepted.window c.unsigned_abs-a.result c.unsigned_abs-b.result c.unsigned_abs-c.result room fit e0.0 e0.1 e1.0 e1.1 e2.0 e2.1 e3.0 e3.1) e4.0 e4.1) e5.0 e5.1 in
    let line = whole c.args.accepted.window c.unsigned_abs-a.result c.unsigned_abs-b.result c.unsigned_abs-c.result in
    let fits : length line ≤ length room = omega (arith, fit, whole_length c.args.accepted.window c.unsigned_abs-a.result c.unsigned_abs-b.result c.unsigned_abs-c.result) in
    rw (← a_is, ← b_is, ← c_is)
    (ap gives all.place ∙ sym (fits_said line room fits), all.holds ∙ sym (fits_room line room fits))
