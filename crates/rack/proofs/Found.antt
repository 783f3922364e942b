-- A recorder that has gone down is found dead: the query ends, and what ends says dead.
use native.Mathlib.Omega.{arith}
use mathlib.Core.Bool.{Bool, true, not}
use mathlib.Core.List.{List, [], ◌∷◌, ◌++◌, append_assoc}
use mathlib.Core.Path.{◌≡◌, sym, ap, ◌∙◌}
use Rattle.words.specs.Lists.{every}
use Rattle.words.proofs.Booleans.{both_hold}
use Rattle.standby_rules.specs.declared.StandbyEvent.TheVariants.{Begin as begin}
use Rattle.rack.specs.Runs.{ours, Event}
use Rattle.rack.specs.Runs.Event.{at_standby}
use Rattle.rack.specs.Claims.{is_begin}
use Rattle.rack.specs.Found.{FoundDead}
use Rattle.rack.proofs.Along.{part_of}
use Rattle.rack.proofs.Detection.{dead_is_detected_lem}
use Rattle.rack.proofs.Exchange.{one_exchange_ends_lem}

-- what holds of all holds of the older ones
every_behind : {A : Type 0} (test : A → Bool) (newer : List A) (x : A) (older : List A)
    → every test (newer ++ (x ∷ older)) ≡ true → every test older ≡ true
every_behind test [] x older e = (both_hold (test x) (every test older) e).1
every_behind test (y ∷ newer) x older e =
    every_behind test newer x older (both_hold (test y) (every test (newer ++ (x ∷ older))) e).1

pub found_dead_lem : FoundDead
found_dead_lem s ok clocks run f D later between earlier g ts q =
    let asked = at_standby g ts begin ∷ earlier in
    let whole = part_of ours s clocks later (between ++ asked) (rw q.queried at q.is_run_lem) in
    let ends = one_exchange_ends_lem s ok clocks between earlier g ts whole q.one_query q.no_restart_lem q.replies in
    let after = ends.0 in
    let past = ends.1 in
    let e = ends.2 in
    let there : run ≡ (later ++ after) ++ (e ∷ (past ++ asked)) =
    q.queried ∙ ap (λ (l : List Event). later ++ (l ++ asked)) ends.3
    ∙ ap (λ (l : List Event). later ++ l) (append_assoc after (e ∷ past) asked)
    ∙ sym (append_assoc later after (e ∷ (past ++ asked))) in
    let dead =
    dead_is_detected_lem s ok clocks run f D q.is_run_lem q.registered q.last_sent q.arrivals (later ++ after) past
    earlier e g ts there
    (every_behind (λ e. not (is_begin e)) after e past (rw ends.3 at q.one_query)) (omega (arith, q.begun)) ends.5 in
    (after, past, e, dead.0, ends.3, ends.4, dead.1)
