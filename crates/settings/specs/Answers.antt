-- What the settings answer: the refusal's number, or 0 and the values W, a, b, c.
use Rattle.std.specs.Prelude.{if◌then◌else◌}
use Rattle.words.specs.Tests.{◌=?◌}
use Rattle.words.specs.Said.{Said, refused}
use Rattle.words.specs.Said.Said.{gives}
use Rattle.settings.specs.declared.Settings.{Settings}
use Rattle.settings.specs.declared.Accepted.{Accepted}
use Rattle.settings.specs.declared.Slacks.{Slacks}
use Rattle.settings.specs.Settings.{in_range, slack_a, slack_b, slack_c, window, refusal_of}

-- the slacks a, b, c
abbrev pub three : Settings → Slacks
three s = record { a = slack_a s; b = slack_b s; c = slack_c s }

-- rule 1.8: W, a, b, c, or the refusal
unfoldable pub judged : Settings → Said Accepted
judged s =
    if refusal_of s =? 0 then gives (record { window = window s; slacks = three s })
    else refused (refusal_of s)

-- The slacks are settled for all settings in range, refused or not.
unfoldable pub slacks_of : Settings → Said Slacks
slacks_of s = if in_range s then gives (three s) else refused 1
