-- `recorder_leases::sift` meets its contract. The loop's invariant: a lease lacks grants exactly if one of those to come does,
-- and those passed that have not ended stand in their places.
use Prim.Native.Nat.{◌+◌, ◌≤◌}
use mathlib.Core.Path.{◌≡◌}
use lib.ListN.{length, take, drop}
use Rattle.recorder_rules.specs.Recorder.{lacking, lacking_from, kept, placed, oldest, leases}
use Rattle.recorder_leases.proofs.sift.Given as goal

abbrev pub invariant-loop-i : goal.invariant-loop-i
invariant-loop-i l = record {
  items : l.send-items ≡ leases l.fn.rec;
  places : length (leases l.fn.rec) ≤ 64;
  numbered : length (leases l.fn.rec) ≤ l.fn.rec.open_leases;
  passed : l.count ≤ l.i;
  lacks : lacking l.s l.fn.rec l.reading ≡ lacking_from l.s l.fn.rec l.reading (oldest l.fn.rec + l.i) (drop l.i (leases l.fn.rec));
  count : l.count ≡ length (kept l.s l.reading (take l.i (leases l.fn.rec)));
  sends : l.sends ≡ placed (kept l.s l.reading (take l.i (leases l.fn.rec)));
}
