-- The runs and near-runs of specs/Needed.antt compute to what is written in them.
use mathlib.Core.Bool.{Bool, true, false, ◌&&◌}
use mathlib.Core.List.{List, [], ◌∷◌}
use mathlib.Core.Path.{◌≡◌, refl}
use lib.ListN.{take, drop}
use Rattle.words.specs.Lists.{every}
use Rattle.settings.specs.declared.Settings.{Settings}
use Rattle.rack.specs.Clocks.{Clocks}
use Rattle.rack.specs.Runs.{Rules, Event, in_time, rising, on_clock, delivered, state_after, is_run}
use Rattle.rack_shown.proofs.Computing.{computing}
use Rattle.rack_shown.specs.Tables.{run_of}
use Rattle.rack_shown.specs.Shown.{renewal_fails}
use Rattle.rack_shown.specs.Needed.{no_test, passes_but, reads_too_low, request_invented, check_invented, ack_invented, grant_invented, asked_once, replies_refused, sent_later, arrives_late, TestsAreNeeded, DetectionNeedsThem}

-- five tests in a row, however they are put together
in_a_row : (run a b c d : Bool) → (run && (a && (b && (c && (d && true))))) ≡ (run && a && b && c && d)
in_a_row false a b c d = refl
in_a_row true false b c d = refl
in_a_row true true false c d = refl
in_a_row true true true false d = refl
in_a_row true true true true false = refl
in_a_row true true true true true = refl

all_of_them : (rules : Rules) (s : Settings) (clocks : Clocks) (events : List Event)
    → passes_but no_test rules s clocks events ≡ is_run rules s clocks events
unfolding passes_but is_run
all_of_them rules s clocks [] = refl
all_of_them rules s clocks (e ∷ past) =
    rw (all_of_them rules s clocks past)
    (in_a_row (is_run rules s clocks past) (in_time past e) (rising past e) (on_clock s clocks e)
    (delivered (state_after rules s past).history e))

-- all that holds by computation
record Computed : Type 0 where
  tests : TestsAreNeeded
  premises : DetectionNeedsThem

computed : Computed
unfolding computing passes_but renewal_fails reads_too_low request_invented check_invented ack_invented grant_invented asked_once
    replies_refused sent_later arrives_late
computed =
    let later = run_of (sent_later 14) in
    let late = run_of (arrives_late 16) in
    record {
      tests = record {
        all_of_them = all_of_them;
        reads_too_low_lem = record { accepted = refl; passes = refl; is_no_run = refl; answers = refl };
        drives_earlier_lem = record { accepted = refl; passes = refl; is_no_run = refl; answers = refl };
        request_invented_lem = record { accepted = refl; passes = refl; is_no_run = refl; answers = refl };
        check_invented_lem = record { accepted = refl; passes = refl; is_no_run = refl; answers = refl };
        ack_invented_lem = record { accepted = refl; passes = refl; is_no_run = refl; answers = refl };
        grant_invented_lem = record { accepted = refl; passes = refl; is_no_run = refl; answers = refl };
        refused_after_dead_lem = record { accepted = refl; passes = refl; is_no_run = refl; answers = refl };
        replies_refused_lem = record { accepted = refl; passes = refl; is_no_run = refl; answers = refl };
        one_round = refl;
        both_replied = refl;
      };
      premises = record {
        later = record { accepted = refl; is_run_lem = refl; answers = refl };
        later_registered = (take 7 later, drop 7 later, refl, refl);
        later_sent = refl;
        later_prompt = refl;
        late = record { accepted = refl; is_run_lem = refl; answers = refl };
        late_registered = (take 7 late, drop 7 late, refl, refl);
        late_sent = refl;
        late_not_prompt = refl;
      };
    }

pub tests_are_needed_lem : TestsAreNeeded
tests_are_needed_lem = computed.tests

pub detection_needs_them : DetectionNeedsThem
detection_needs_them = computed.premises
