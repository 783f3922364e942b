-- `recorder_leases::sift` meets its contract. The loop's invariant: a lease lacks grants exactly if one of those to come does,
-- and those passed that have not ended stand in their places.
use Prim.Native.Nat.{ℕ, ◌+◌, ◌<◌, ◌-◌, min}
use native.Mathlib.Nat.{add-zero}
use native.Mathlib.Omega.{arith}
use mathlib.Core.Path.{◌≡◌, refl, sym, ap, ◌∙◌}
use mathlib.Core.List.{List, [], ◌∷◌}
use lib.ListN.{length, take, get_or, length-append, length-take}
use lib.Seq.{take_all}
use borrow.Author.Tests.{le-leb, lt-leb}
use Rattle.std.proofs.lemmas.List.{take_min}
use Rattle.settings.specs.Settings.{P}
use Rattle.recorder_rules.specs.Recorder.{lacking, kept, oldest, leases}
use Rattle.recorder_leases.specs.Parts.{sifted}
use Rattle.recorder_leases.proofs.Leases.{lacking_kept, lacking_renewed, lacking_found, lacking_done, kept_ended, kept_young, placed_push}
use Rattle.recorder_rules.proofs.Places.{sized}
use Rattle.recorder_leases.proofs.sift.Goals as goal
use Rattle.recorder_leases.proofs.sift.Goals.{then-s-less+else-not-is_granted_above, else-s-less}

pub loop-i-init : goal.loop-i-init
unfolding lacking kept
loop-i-init c =
    let rec = c.args.rec in
    let full = sized rec _ c.well_formed.1.0 in
    let places = c.min-open.ensures ∙ ap (λ (k : ℕ). min rec.open_leases k) (sym full.sends) in
    let size = length-take rec.open_leases rec.sends in
    record {
      items = ap (λ (k : ℕ). take k rec.sends) places ∙ take_min rec.open_leases rec.sends;
      places = omega (arith, size, full.sends);
      numbered = omega (arith, size);
      passed = omega arith;
      lacks = rw (add-zero (oldest rec));
      count = refl;
      sends = refl;
    }

pub returns-then-not-is_granted_above : goal.returns-then-not-is_granted_above
unfolding sifted
returns-then-not-is_granted_above c =
    let a = c.args in
    let i = c.loop-i.i in
    let xs = leases a.rec in
    let so_far = c.loop-i.invariant in
    let in_list = rw so_far.items at c.loop-i-test.true in
    let here = ap (λ (ys : List ℕ). get_or ys i 0) so_far.items in
    let ended = le-leb (P a.s) (a.reading - get_or xs i 0) (omega (arith, here, c.if-s-less.true)) in
    let number : c.less-then-s-less.result + i + 1 ≡ oldest a.rec + i = omega arith in
    let lacks = rw number at (sym c.is_granted_above.ensures ∙ c.if-not-is_granted_above.true) in
    rw (lacking_found a.s a.rec a.reading (oldest a.rec) xs i so_far.lacks in_list ended lacks)

pub loop-i-preserved : goal.loop-i-preserved
loop-i-preserved c =
    let a = c.args in
    let i = c.loop-i.i in
    let xs = leases a.rec in
    let so_far = c.loop-i.invariant in
    let in_list = rw so_far.items at c.loop-i-test.true in
    let here = ap (λ (ys : List ℕ). get_or ys i 0) so_far.items in
    let ks = kept a.s a.reading (take i xs) in
    elim c.if-s-less.branch [
      | then-s-less+else-not-is_granted_above w ↦
          let ended = le-leb (P a.s) (a.reading - get_or xs i 0) (omega (arith, here, w.if-s-less.true)) in
          let number : w.less-then-s-less.result + i + 1 ≡ oldest a.rec + i = omega arith in
          let renewed = rw number at (sym w.is_granted_above.ensures ∙ w.if-not-is_granted_above.false) in
          let same = kept_ended a.s a.reading xs i in_list ended in
          record {
            items = so_far.items;
            places = so_far.places;
            numbered = so_far.numbered;
            passed = omega (arith, w.count-is);
            lacks = lacking_renewed a.s a.rec a.reading (oldest a.rec) xs i so_far.lacks in_list renewed;
            count = rw same (w.count-is ∙ so_far.count);
            sends = rw same (w.sends-is ∙ so_far.sends);
          }
      | else-s-less w ↦
          let young = lt-leb (P a.s) (a.reading - get_or xs i 0) (omega (arith, here, w.if-s-less.false)) in
          let more = kept_young a.s a.reading xs i in_list young in
          let place : length ks < 64 = omega (arith, so_far.count) in
          record {
            items = so_far.items;
            places = so_far.places;
            numbered = so_far.numbered;
            passed = omega (arith, w.count-is);
            lacks = lacking_kept a.s a.rec a.reading (oldest a.rec) xs i so_far.lacks in_list young;
            count = rw (more, length-append ks (get_or xs i 0 ∷ [])) (omega (arith, w.count-is, so_far.count));
            sends = w.sends-is ∙ rw (more, so_far.sends, so_far.count, here) (placed_push ks (get_or xs i 0) place);
          }
    ]

pub returns : goal.returns
unfolding sifted
returns c =
    let a = c.args in
    let so_far = c.loop-i.invariant in
    let past = rw so_far.items at c.loop-i-test.false in
    let all = take_all c.loop-i.i (leases a.rec) past in
    rw (lacking_done a.s a.rec a.reading (oldest a.rec) (leases a.rec) c.loop-i.i so_far.lacks past, so_far.count, so_far.sends, all)
