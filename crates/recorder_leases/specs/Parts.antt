-- What the private part of `advance` is to give. Its own contract cites none of this.
use Rattle.std.specs.Prelude.{ℕ, length, Option, None, Some, if◌then◌else◌}
use Rattle.settings.specs.declared.Settings.{Settings}
use Rattle.recorder_rules.specs.declared.Recorder.{Recorder}
use Rattle.recorder_rules.specs.Recorder.{leases, lacking, kept, placed}
use Rattle.recorder_leases.specs.declared.Left.{Left}

-- what is left of the leases, unless some ended lease lacks grants
unfoldable pub sifted : Settings → Recorder → (reading : ℕ) → Option Left
sifted s rec reading =
    if lacking s rec reading then None
    else Some (record { count = length (kept s reading (leases rec)); sends = placed (kept s reading (leases rec)) })
