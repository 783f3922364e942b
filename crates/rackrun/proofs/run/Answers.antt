-- The answers lie in the room.
use Rattle.std.proofs.Common.{sym, ◌≤◌, length, arith, length-take-le}
use Rattle.stepfile_rules.proofs.Files.{in_room}
use Rattle.rackrun.proofs.run.Goals as goal

pub slice_bounds-write_output-end-in-Ok-2 : goal.slice_bounds-write_output-end-in-Ok-2
slice_bounds-write_output-end-in-Ok-2 c =
    let within : c.in-Ok.count ≤ length c.answer_file.new.out = grind (arith, in_room) in
    sym (length-take-le _ _ within)
