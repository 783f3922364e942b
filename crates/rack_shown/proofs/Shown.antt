-- The runs of specs/Shown.antt: each table computes to what is written in it.
use native.Mathlib.Nat.{le_refl}
use mathlib.Core.Bool.{Bool, true, false, ◌&&◌, not}
use mathlib.Core.List.{List, [], ◌∷◌, ◌++◌}
use mathlib.Core.Logic.{inl, inr}
use mathlib.Core.Path.{◌≡◌, refl, sym, ap}
use lib.ListN.{take, drop}
use Rattle.words.proofs.Booleans.{both_hold, not_both}
use Rattle.messages.specs.declared.Status.TheVariants.{Alive, Dead}
use Rattle.messages.specs.Answers.{says_of}
use Rattle.recorder_rules.specs.Recorder as recorder
use Rattle.standby_rules.specs.declared.StandbyEvent.TheVariants.{Ack as ack}
use Rattle.messages.proofs.Apart.{says_other}
use Rattle.rack.specs.Runs.{ours, Event, state_after}
use Rattle.rack.specs.Runs.Event.{at_standby}
use Rattle.rack_shown.proofs.Computing.{computing}
use Rattle.rack_shown.specs.Tables.{narrow, together, run_of}
use Rattle.rack_shown.specs.Shown.{renewal_fails, DeadToldAtTheWindow, renewed, AliveToldWhileDriving, last_request, query, queried_at, BoundIsMet, BoundIsMissed, BoundIsTight, asked, replies, JustInTime, unheard, cut_late, begun_anew, restarted, PremisesNeeded}

-- whether the recorder is registered behind this past
abbrev registered_behind : List Event → Bool
registered_behind past = recorder.registered narrow (state_after ours narrow past).recorder

-- neither behind this past nor behind any part of it
unfoldable never_registered : List Event → Bool
never_registered [] = not (registered_behind [])
never_registered (e ∷ past) = not (registered_behind (e ∷ past)) && never_registered past

not_and_so : (b : Bool) → not b ≡ true → b ≡ true → ⊥
not_and_so true n y = not_both y (sym n)
not_and_so false n y = not_both y refl

never_registered_lem : (later past : List Event) → never_registered (later ++ past) ≡ true → registered_behind past ≡ true → ⊥
unfolding never_registered
never_registered_lem [] [] never r = not_and_so (registered_behind []) never r
never_registered_lem [] (e ∷ past) never r =
    not_and_so (registered_behind (e ∷ past)) (both_hold (not (registered_behind (e ∷ past))) (never_registered past) never).0 r
never_registered_lem (e ∷ later) past never r =
    let rest = (both_hold (not (registered_behind (e ∷ (later ++ past)))) (never_registered (later ++ past)) never).1 in
    never_registered_lem later past rest r

-- all that holds by computation
record Computed : Type 0 where
  dead_told : DeadToldAtTheWindow
  alive_told : AliveToldWhileDriving
  met : BoundIsMet
  tight : BoundIsTight
  just_in_time : JustInTime
  needed : PremisesNeeded

-- In the runs of detection the recorder is registered behind the first three events. `DetectsFrom (bound s)` is `Detects`, its
-- premises in one record.
computed : Computed
unfolding computing never_registered renewal_fails renewed last_request query asked replies unheard cut_late begun_anew restarted
computed =
    let late = run_of (queried_at 16 Dead "dead") in
    let early = run_of (queried_at 15 Alive "alive") in
    let missed : BoundIsMissed =
    record {
      as_written = record { accepted = refl; is_run_lem = refl; answers = refl };
      supposed = record {
        is_run_lem = refl;
        registered = (take 8 early, drop 8 early, refl, refl);
        last_sent = refl;
        arrivals = refl;
        queried = refl;
        one_query = refl;
        begun = le_refl 15;
        ends = inr (2, inr refl);
      };
    } in
    record {
      dead_told = record { accepted = refl; is_run_lem = refl; answers = refl };
      alive_told = record { accepted = refl; is_run_lem = refl; answers = refl };
      met = record {
        as_written = record { accepted = refl; is_run_lem = refl; answers = refl };
        supposed = record {
          is_run_lem = refl;
          registered = (take 8 late, drop 8 late, refl, refl);
          last_sent = refl;
          arrivals = refl;
          queried = refl;
          one_query = refl;
          begun = le_refl 16;
          ends = inr (2, inl refl);
        };
      };
      tight = record {
        run = missed;
        stated = λ rules s detects clocks run f D later between earlier ending g ts q.
            detects clocks run f D q.is_run_lem q.registered q.last_sent q.arrivals
            later between earlier ending g ts q.queried q.one_query q.begun q.ends;
        as_stated = λ rules s detects clocks run f D is_run_lem registered last_sent arrivals
            later between earlier ending g ts queried one_query begun ends.
            detects clocks run f D later between earlier ending g ts
            (record {
              is_run_lem = is_run_lem;
              registered = registered;
              last_sent = last_sent;
              arrivals = arrivals;
              queried = queried;
              one_query = one_query;
              begun = begun;
              ends = ends;
            });
        not_before = λ detects.
            let told =
            detects together early 2 1 [] (at_standby 15 15 (ack 0 14 2 Alive) ∷ []) (run_of (last_request 15 Alive))
            (at_standby 15 15 (ack 1 14 0 Dead)) 15 14 missed.supposed in
            says_other (says_of "alive" 2) (says_of "dead" told.0) refl told.1;
      };
      just_in_time = record {
        no_slack = refl;
        in_time_lem = record { accepted = refl; is_run_lem = refl; answers = refl };
        one_round = refl;
        no_restart_lem = refl;
        quorum = refl;
        too_late = record { accepted = refl; is_run_lem = refl; answers = refl };
      };
      needed = record {
        unknown = record { accepted = refl; is_run_lem = refl; answers = refl };
        not_registered = λ r. never_registered_lem r.0 r.1 (sym (ap never_registered r.2)) r.3;
        unheard_sent = refl;
        unheard_prompt = refl;
        alive = record { accepted = refl; is_run_lem = refl; answers = refl };
        cut_sent = refl;
        cut_not_prompt = refl;
        refused = record { accepted = refl; is_run_lem = refl; answers = refl };
        two_rounds = refl;
        both_replied = refl;
        lost = record { accepted = refl; is_run_lem = refl; answers = refl };
        one_restart = refl;
        replied_as_well = refl;
      };
    }

pub dead_told_at_the_window : DeadToldAtTheWindow
dead_told_at_the_window = computed.dead_told

pub alive_told_while_driving : AliveToldWhileDriving
alive_told_while_driving = computed.alive_told

pub bound_is_met : BoundIsMet
bound_is_met = computed.met

pub bound_is_tight : BoundIsTight
bound_is_tight = computed.tight

pub just_in_time : JustInTime
just_in_time = computed.just_in_time

pub premises_needed : PremisesNeeded
premises_needed = computed.needed
