-- The five numbers, the sends and the grants are the 85 words.
use native.Mathlib.Omega.{arith}
use mathlib.Core.Path.{◌≡◌, ap, ◌∙◌}
use lib.ListN.{take, drop, length-drop}
use lib.Seq.{take_all}
use Rattle.firmware_rules.specs.Bytes.{words_at, decoded}
use Rattle.firmware_rules.proofs.Words.{words_drop, words_take, words_at_lem}
use Rattle.record_bytes.proofs.decode.Goals as goal

pub returns : goal.returns
unfolding decoded
returns c =
    let b = c.args.b.now in
    let sends : take 64 (drop 5 (words_at 85 b)) ≡ words_at 64 (drop 40 b) =
    ap (take 64) (words_drop 5 80 b) ∙ words_take 64 16 (drop 40 b) in
    let sends_part : take 640 (drop 40 b) ≡ drop 40 b = take_all 640 (drop 40 b) (rw (length-drop 40 b) (omega (arith, c.told-b))) in
    let grants_part : take 128 (drop 552 b) ≡ drop 552 b = take_all 128 (drop 552 b) (rw (length-drop 552 b) (omega (arith, c.told-b))) in
    rw (
      c.words_at.ensures,
      c.words_at-sends.ensures,
      c.words_at-grants.ensures,
      words_at_lem 0 85 b (omega arith),
      words_at_lem 1 85 b (omega arith),
      words_at_lem 2 85 b (omega arith),
      words_at_lem 3 85 b (omega arith),
      words_at_lem 4 85 b (omega arith),
      words_at_lem 0 5 b (omega arith),
      words_at_lem 1 5 b (omega arith),
      words_at_lem 2 5 b (omega arith),
      words_at_lem 3 5 b (omega arith),
      words_at_lem 4 5 b (omega arith),
      sends,
      words_drop 69 16 b,
      sends_part,
      grants_part,
    )
