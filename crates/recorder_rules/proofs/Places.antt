-- The places of a record that a step is handed: 64 of leases and 16 of grants. Assumes nothing.
use mathlib.Core.List.{List}
use mir.Val.{Val}
use denote.Laws.{Is}
use denote.Struct.Declared.{row}
use denote.Struct.Laws.{owed}
use Rattle.recorder_rules.specs.declared.Recorder.{Recorder}
use Rattle.recorder_rules.specs.Claims.{Sized}
use Rattle.recorder_rules.specs.contracts.Recorder.{the_type}
use Rattle.recorder_rules.proofs.Recorder.TheLaws.{the_laws}

pub sized : (rec : Recorder) (vs : List Val) → Is (row the_type) rec vs → Sized rec
sized rec vs is =
    let fields = owed the_type the_laws rec vs is in
    record {
      sends = fields.1.1.1.1.1.0.1.0.1;
      grants = fields.1.1.1.1.1.1.0.1.0.1;
    }
