-- Rules 9.7 and 9.8 in one: a recorder that has gone down is found dead.
use Rattle.std.specs.Prelude.{ℕ, ◌+◌, ◌*◌, ◌≤◌, true, List, ◌∷◌, ◌++◌, ◌≡◌}
use Rattle.words.specs.Lists.{every}
use Rattle.settings.specs.declared.Settings.{Settings}
use Rattle.settings.specs.Settings.{Δ, O, rounding, refusal_of}
use Rattle.quorums.specs.Quorums.{closes}
use Rattle.messages.specs.Answers.{says_of}
use Rattle.standby_rules.specs.declared.StandbyEvent.TheVariants.{Begin as begin}
use Rattle.rack.specs.Clocks.{Clocks}
use Rattle.rack.specs.Runs.{Rules, ours, Event, time, state_after, answer_to, is_run}
use Rattle.rack.specs.Runs.Event.{at_standby}
use Rattle.rack.specs.Claims.{RegisteredIn, sent_by, prompt, no_begin, no_restart, ackers}

-- A run, and a query in it that is begun at time g, reading ts, with the events `between` behind it.
pub record Asked (rules : Rules) (s : Settings) (clocks : Clocks) (run : List Event) (f D : ℕ)
    (later between earlier : List Event) (g ts : ℕ) : Type 0 where
  pub is_run_lem : is_run rules s clocks run ≡ true
  -- the recorder had registered
  pub registered : RegisteredIn rules s run
  -- it sent no request after time f
  pub last_sent : sent_by f (state_after rules s run).history ≡ true
  -- no request arrives more than D after its sending
  pub arrivals : every (prompt D (state_after rules s run).history) run ≡ true
  -- the query is begun late enough,
  pub queried : run ≡ later ++ (between ++ (at_standby g ts begin ∷ earlier))
  pub begun : f + D + O s + 2 * rounding s ≤ g
  -- it is left alone,
  pub one_query : no_begin between ≡ true
  pub no_restart_lem : no_restart between ≡ true
  -- and the replies of a query quorum arrive within the timeliness bound
  pub replies : closes s (ackers ts (g + Δ s) between) ≡ true

-- Within the timeliness bound of the query's begin some event is answered dead.
abbrev pub ToldDead : Rules → Settings → (between earlier : List Event) → (g ts : ℕ) → Type 0
ToldDead rules s between earlier g ts =
    (after : List Event) × (past : List Event) × (told : Event) × (m : ℕ)
    × (between ≡ after ++ (told ∷ past))
    × (time told ≤ g + Δ s)
    × (answer_to rules s (past ++ (at_standby g ts begin ∷ earlier)) told ≡ says_of "dead" m)

-- Every such query is told dead, under all accepted settings.
abbrev pub FoundDead : Type 0
FoundDead =
    (s : Settings) → refusal_of s ≡ 0
    → (clocks : Clocks) (run : List Event) (f D : ℕ) (later between earlier : List Event) (g ts : ℕ)
    → Asked ours s clocks run f D later between earlier g ts
    → ToldDead ours s between earlier g ts

-- A run with such a query in it, told dead.
pub record TellsDead (s : Settings) : Type 0 where
  pub clocks : Clocks
  pub run : List Event
  pub f : ℕ
  pub D : ℕ
  pub later : List Event
  pub between : List Event
  pub earlier : List Event
  pub g : ℕ
  pub ts : ℕ
  pub asked : Asked ours s clocks run f D later between earlier g ts
  pub told : ToldDead ours s between earlier g ts

-- There is one under all accepted settings: what is supposed above can be met under each of them, and dead is told.
abbrev pub SomeRunTellsDead : Type 0
SomeRunTellsDead = (s : Settings) → refusal_of s ≡ 0 → TellsDead s
