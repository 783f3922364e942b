-- The rules of specs/Shortcuts.antt are not safe: their runs compute, and in each a drive after dead is answered running.
use mathlib.Core.List.{[], ◌∷◌}
use mathlib.Core.Path.{refl}
use lib.ListN.{drop}
use Rattle.messages.specs.declared.Status.TheVariants.{Alive, Dead}
use Rattle.messages.specs.Answers.{says_of}
use Rattle.recorder_rules.specs.declared.RecorderEvent.TheVariants.{Grant as grant}
use Rattle.standby_rules.specs.declared.StandbyEvent.TheVariants.{Ack as ack}
use Rattle.rack.specs.Runs.Event.{at_recorder, at_standby}
use Rattle.rack_shown.proofs.Computing.{computing}
use Rattle.rack_shown.specs.Tables.{clocks_ahead, together, run_of}
use Rattle.rack_shown.specs.Shortcuts.{WindowPlusOneUnsafe, TwoGrainsUnsafe, NoRoundingUnsafe, GrantFirstUnsafe, MajorityUnsafe, LatestFirstUnsafe, asked_too_early, rounded_down, grant_first, slept, by_majority, majority_step, outvoted, latest_first, cut_between}

-- all that holds by computation
record Computed : Type 0 where
  window_plus_one : WindowPlusOneUnsafe
  two_grains : TwoGrainsUnsafe
  no_rounding : NoRoundingUnsafe
  grant_first_lem : GrantFirstUnsafe
  majority : MajorityUnsafe
  latest_first_lem : LatestFirstUnsafe

computed : Computed
unfolding computing asked_too_early rounded_down grant_first slept by_majority majority_step outvoted latest_first cut_between
computed =
    let early = run_of (asked_too_early (says_of "dead" 1)) in
    let near = clocks_ahead 0 0 (1 ∷ []) in
    record {
      window_plus_one = record {
        run = record { accepted = refl; is_run_lem = refl; answers = refl };
        not_safe = λ safe. safe.never_drives near (drop 2 early) [] (at_standby 10 9 (ack 0 6 1 Dead)) 1 10 9 refl refl refl;
        with_our_rules = record { accepted = refl; is_run_lem = refl; answers = refl };
      };
      two_grains = record {
        run = record { accepted = refl; is_run_lem = refl; answers = refl };
        not_safe = λ safe. safe.never_drives near (drop 2 early) [] (at_standby 10 9 (ack 0 6 1 Dead)) 1 10 9 refl refl refl;
        with_our_rules = record { accepted = refl; is_run_lem = refl; answers = refl };
      };
      no_rounding = record {
        run = record { accepted = refl; is_run_lem = refl; answers = refl };
        not_safe = λ safe.
            safe.never_drives (clocks_ahead 0 5 (8 ∷ [])) (drop 2 (run_of (rounded_down (says_of "dead" 1)))) []
            (at_standby 1233 1230 (ack 0 1160 1 Dead)) 1 1233 1230 refl refl refl;
        with_our_rules = record { accepted = refl; is_run_lem = refl; answers = refl };
      };
      grant_first_lem = record {
        run = record { accepted = refl; is_run_lem = refl; answers = refl };
        not_safe = λ safe.
            safe.never_drives together (drop 3 (run_of (slept "running"))) (at_recorder 1245 1245 (grant 2 2) ∷ [])
            (at_standby 1242 1242 (ack 2 1240 1 Dead)) 1 1246 1246 refl refl refl;
        with_our_rules = record { accepted = refl; is_run_lem = refl; answers = refl };
      };
      majority = record {
        run = record { accepted = refl; is_run_lem = refl; answers = refl };
        not_safe = λ safe.
            safe.never_drives together (drop 2 (run_of (outvoted "dead"))) []
            (at_standby 1241 1241 (ack 2 1240 2 Alive)) 2 1245 1245 refl refl refl;
        with_our_rules = record { accepted = refl; is_run_lem = refl; answers = refl };
      };
      latest_first_lem = record {
        run = record { accepted = refl; is_run_lem = refl; answers = refl };
        not_safe = λ safe.
            safe.never_drives together (drop 2 (run_of (cut_between 2 Dead "dead"))) []
            (at_standby 1241 1241 (ack 1 1240 2 Alive)) 2 1245 1245 refl refl refl;
        with_our_rules = record { accepted = refl; is_run_lem = refl; answers = refl };
      };
    }

pub window_plus_one_unsafe : WindowPlusOneUnsafe
window_plus_one_unsafe = computed.window_plus_one

pub two_grains_unsafe : TwoGrainsUnsafe
two_grains_unsafe = computed.two_grains

pub no_rounding_unsafe : NoRoundingUnsafe
no_rounding_unsafe = computed.no_rounding

pub grant_first_unsafe : GrantFirstUnsafe
grant_first_unsafe = computed.grant_first_lem

pub majority_unsafe : MajorityUnsafe
majority_unsafe = computed.majority

pub latest_first_unsafe : LatestFirstUnsafe
latest_first_unsafe = computed.latest_first_lem
