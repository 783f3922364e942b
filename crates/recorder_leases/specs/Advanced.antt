-- What every accepted step makes of the record before its event: rules 3.4 to 3.7.
use Rattle.std.specs.Prelude.{ℕ, not, if◌then◌else◌}
use Rattle.settings.specs.declared.Settings.{Settings}
use Rattle.recorder_rules.specs.declared.Recorder.{Recorder}
use Rattle.recorder_rules.specs.Recorder.{is_zero, lacking, advanced, halted}
use Rattle.recorder_leases.specs.declared.Advanced.{Advanced}
use Rattle.recorder_leases.specs.declared.Advanced.TheVariants.{GoesOn, Stopped}

-- the record at the event, or a recorder that has stopped
unfoldable pub advanced_to : Settings → Recorder → (reading : ℕ) → Advanced
advanced_to s rec reading =
    if not (is_zero rec.stopped) then Stopped rec
    else (if lacking s rec reading then Stopped (halted rec reading)
    else GoesOn (advanced s rec reading))
