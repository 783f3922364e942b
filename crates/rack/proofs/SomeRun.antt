-- Under all accepted settings some run ends in dead, with all that is supposed of it: all clocks show the common time; at time
-- 0 the recorder sends its only request, and every observer grants it; as soon as the bound of detection allows, the standby
-- asks, and every observer replies within the tick.
use Prim.Native.Nat.{ℕ, zero, suc, ◌+◌, ◌-◌, ◌*◌, ◌≤◌, ◌<◌, zero-le}
use native.Mathlib.Omega.{arith}
use native.Mathlib.Nat.{le_trans, le_refl, add-zero, zero-add, add-suc, suc-add}
use mathlib.Core.Path.{◌≡◌, refl, sym, ap, ◌∙◌}
use mathlib.Core.Bool.{Bool, true, false, ◌&&◌, ◌||◌, not, or-true}
use mathlib.Core.List.{List, [], ◌∷◌, ◌++◌, map, append_assoc}
use lib.ListN.{length, get_or, set, take, replicate, length-set}
use lib.Seq.{get_or-set_same, get_or-set_other}
use borrow.Author.Tests.{le-leb, le-ltb, lt-leb, lt-ltb, eq-eqb, ne_eqb, eqb-true, eqb-false}
use Rattle.words.specs.Tests.{◌=?◌, ◌<?◌, ◌≤?◌}
use Rattle.words.specs.Lists.{every, some, count_where}
use Rattle.words.specs.Said.{Said, first, ◌when◌}
use Rattle.words.proofs.Conditions.{holds_both, holds_either}
use Rattle.words.proofs.Said.{passes_on}
use Rattle.words.proofs.Walks.{count_suc}
use Rattle.settings.specs.declared.Settings.{Settings}
use Rattle.settings.specs.Settings.{n, t, Δ, P, O, G, rounding, window, refusal_of, refusals}
use Rattle.quorums.specs.Quorums.{members, survives, closes, ◌∋◌}
use Rattle.settings.proofs.Laws.{accepted_in_range}
use Rattle.messages.specs.declared.Message.{Message}
use Rattle.messages.specs.declared.Message.TheVariants.{LeaseRequest, LeaseGrant, Check, CheckAck}
use Rattle.messages.specs.Messages.{top_reading, top_counter}
use Rattle.messages.specs.Answers.{Spoken, sends, sent, message}
use Rattle.messages.specs.Outcomes.{Outcome, ◌leaving◌, bad_reading}
use Rattle.messages.proofs.Outcomes.{not_refused}
use Rattle.recorder_rules.specs.declared.Recorder.{Recorder}
use Rattle.recorder_rules.specs.Recorder.{fresh as freshRecorder, step_of as recorderStep, step_refusals, grant_refusals, accepted, lacking, lacking_from, advanced, kept, tick_event, grant_event, higher, granted, registered}
use Rattle.recorder_rules.specs.declared.RecorderEvent.TheVariants.{Tick as tick, Grant as grant}
use Rattle.recorder_rules.proofs.Grants.{granted_at, higher_least}
use Rattle.recorder_rules.proofs.Ways.{Passes}
use Rattle.observer_rules.specs.declared.Observer.{Observer}
use Rattle.observer_rules.specs.Observer.{fresh as freshObserver, step_of as observerStep, last_reading_of, at_reading, has_form, form, request_refusals, check_refusals, status_at, answer_of, reading_after, stores, stores_of, store_all, store}
use Rattle.observer_rules.specs.declared.ObserverEvent.TheVariants.{Request as request, Check as check}
use Rattle.standby_rules.specs.Standby.{step_within}
use Rattle.standby_rules.proofs.Ways.{standby_sends}
use Rattle.standby_rules.specs.declared.StandbyEvent.{StandbyEvent}
use Rattle.standby_rules.specs.declared.StandbyEvent.TheVariants.{Begin as begin, Ack as ack}
use Rattle.rack.specs.Clocks.{Clock, Clocks, reads}
use Rattle.rack.specs.Runs.{ours, Event, State, Party, Sent, Reading, time, party_key, message_key, same_numbers, was_sent, put, posted, perform, in_time, readings_at, rising, on_clock, delivered, state_after, is_run}
use Rattle.rack.specs.Runs.Event.{at_recorder, at_observer, at_standby}
use Rattle.rack.specs.Runs.Party.{recorder, standby, observer}
use Rattle.rack.specs.Claims.{is_request, sent_by, arrives_within, prompt, is_begin, no_begin, is_restart, no_restart, ack_from, sixteen, ackers}
use Rattle.rack.specs.Found.{Asked, SomeRunTellsDead}
use Rattle.rack.proofs.History.{All, none, more, all_map, posted_either}
use Rattle.rack.proofs.Freedoms.{was_sent_lem, joins}
use Rattle.rack.proofs.AtObserver.{put_each}
use Rattle.rack.proofs.Along.{adds, nothing, Holds, from_start}
use Rattle.rack.proofs.Rounds.{begins}
use Rattle.rack.proofs.NeverRefused.{passes}
use Rattle.rack.proofs.Sending.{posted_every}
use Rattle.rack.proofs.Exchange.{up_from}
use Rattle.rack.proofs.Found.{found_dead_lem}

-- ---- all observers are a quorum of both kinds

all_marks : (k : ℕ) (set : List Bool) → ((x : ℕ) → x < k → set ∋ x) → count_where (λ mark. mark) (take k set) ≡ k
unfolding count_where
all_marks zero set has = refl
all_marks (suc k) set has =
    rw (count_suc (λ mark. mark) false refl set k, has k (omega arith), all_marks k set (λ x h. has x (omega arith)))

everyone : (s : Settings) → refusal_of s ≡ 0 → (set : List Bool) → ((x : ℕ) → x < n s → set ∋ x)
    → (survives s set ≡ true) × (closes s set ≡ true)
unfolding survives closes members
everyone s ok set has =
    let range = accepted_in_range s ok in
    let query : n s - t s + 1 ≤ n s = omega (arith, range.t_greatest, range.t_least) in
    rw (all_marks (n s) set has) (le-leb (t s) (n s) range.t_greatest, le-leb (n s - t s + 1) (n s) query)

-- the mark of each of the sixteen
mark_of : (f : ℕ → Bool) (k a x : ℕ) → x < k → get_or (map f (up_from a k)) x false ≡ f (a + x)
unfolding up_from
mark_of f zero a x h = absurd (omega arith)
mark_of f (suc k) a zero h = rw (add-zero a)
mark_of f (suc k) a (suc x) h = rw (add-suc a x, ← (suc-add a x)) (mark_of f k (suc a) x (omega arith))

sixteen_of : (f : ℕ → Bool) (x : ℕ) → x < 16 → get_or (map f sixteen) x false ≡ f x
unfolding up_from
sixteen_of f x h = mark_of f 16 0 x h ∙ ap f (zero-add x)

-- ---- clocks that show the common time, and events at one time

abbrev even : Clock
even = record { behind = 0; at = λ g. g; steady = λ g span. refl }

abbrev clocks : Clocks
clocks = record { recorder = even; standby = even; observer = λ x. even }

-- the event is over at time g, and nothing higher was read
record Over (g : ℕ) (e : Event) : Type 0 where
  by_then : time e ≤ g
  read : All (λ now. now.r ≤ g) (readings_at e)

still_over : (g later : ℕ) → g ≤ later → (e : Event) → Over g e → Over later e
still_over g later h e o = record { by_then = le_trans o.by_then h; read = all_map (λ now l. le_trans l h) o.read }

over_now : (g who : ℕ) (e : Event) → time e ≡ g → readings_at e ≡ record { who = who; r = g } ∷ [] → Over g e
over_now g who e t only = record { by_then = rw t (le_refl g); read = rw only (more (le_refl g) none) }

in_time_lem : (g : ℕ) (past : List Event) (e : Event) → time e ≡ g → All (Over g) past → in_time past e ≡ true
unfolding in_time
in_time_lem g [] e t none = refl
in_time_lem g (last ∷ past) e t (more o os) = le-leb (time last) (time e) (rw t o.by_then)

no_fall : (g who : ℕ) (past : List Event) → All (Over g) past
    → every (λ before. every (λ old. not (old.who =? who) || (old.r ≤? g)) (readings_at before)) past ≡ true
no_fall g who [] none = refl
no_fall g who (e ∷ past) (more o os) = holds_both (one (readings_at e) o.read) (no_fall g who past os)
  where
    one : (readings : List Reading) → All (λ now. now.r ≤ g) readings
        → every (λ old. not (old.who =? who) || (old.r ≤? g)) readings ≡ true
    one [] none = refl
    one (old ∷ others) (more l ls) =
        holds_both (holds_either (not (old.who =? who)) (λ _. le-leb old.r g l)) (one others ls)

-- ---- histories

-- what was sent stays so
still_sent : (history : List Sent) (by : Party) (what : Message) (p : Party) (g : ℕ) (answer : Said Spoken)
    → was_sent history by what ≡ true
    → was_sent (posted p g answer history) by what ≡ true
unfolding was_sent
still_sent history by what p g answer e =
    posted_either (λ sent. was_sent sent by what ≡ true) p g answer history e
    (λ m _. rw e (or-true ((party_key p =? party_key by) && same_numbers (message_key m) (message_key what))))

-- requests arrive at once, where all of them arrive at time 0
at_once : (history : List Sent) (c : ℕ) → arrives_within 0 history c 0 ≡ true
at_once [] c = refl
at_once (sent ∷ history) c =
    holds_both (holds_either (not (same_numbers (message_key sent.what) (message_key (LeaseRequest c))))
    (λ _. le-leb 0 (sent.time + 0) zero-le)) (at_once history c)

module _ (s : Settings) (ok : refusal_of s ≡ 0) where
  abbrev after : List Event → State
  after events = state_after ours s events

  abbrev IsRun : List Event → Type 0
  IsRun events = is_run ours s clocks events ≡ true

  held : (events : List Event) → IsRun events → Holds s ok window (le_refl (window s)) clocks 0 false nothing events
  held events run = from_start s ok window (le_refl (window s)) clocks events run

  on_even : (g : ℕ) → g ≤ top_reading → (reads s even g g && (g ≤? top_reading)) ≡ true
  unfolding reads
  on_even g top =
      holds_both (holds_both (le-leb (g + 0) g (omega arith))
      (lt-ltb g (g + 0 + G s) (omega (arith, (accepted_in_range s ok).G_least)))) (le-leb g top_reading top)

  joins_at : (g who : ℕ) (past : List Event) (e : Event) → IsRun past → All (Over g) past → time e ≡ g
      → readings_at e ≡ record { who = who; r = g } ∷ []
      → on_clock s clocks e ≡ true → delivered (after past).history e ≡ true → IsRun (e ∷ past) × All (Over g) (e ∷ past)
  unfolding rising
  joins_at g who past e run over t only clock came = (
    joins ours s clocks past e run (in_time_lem g past e t over) (rw only (holds_both (no_fall g who past over) refl)) clock came,
    more (over_now g who e t only) over,
  )

  -- ---- one step of each kind

  -- the recorder behind its only request
  abbrev registering : List ℕ → Recorder
  registering grants =
      record {
        stopped = 0;
        counter = 1;
        last_send = 0;
        last_reading = 0;
        open_leases = 1;
        sends = 0 ∷ replicate 63 0;
        grants = grants;
      }

  tick_once : Passes s freshRecorder 0 tick
      → recorderStep s freshRecorder 0 tick ≡ (sends (LeaseRequest 1) leaving registering (replicate 16 0))
  unfolding recorderStep accepted lacking lacking_from advanced kept tick_event
  tick_once p = not_refused (step_refusals s freshRecorder 0) freshRecorder (accepted s freshRecorder 0 (tick_event s 0)) p

  grant_once : (grants : List ℕ) (x : ℕ) → Passes s (registering grants) 0 (grant x 1)
      → (recorderStep s (registering grants) 0 (grant x 1)).rec ≡ registering (set grants x (higher (get_or grants x 0) 1))
  unfolding recorderStep accepted lacking lacking_from advanced kept grant_event
  grant_once grants x p =
      ap (λ (o : Outcome Recorder). o.rec)
      (not_refused (grant_refusals s (registering grants) 0 x 1) (registering grants)
      (accepted s (registering grants) 0 (grant_event s x 1)) p)
      ∙ rw (lt-leb (P s) 0 (accepted_in_range s ok).P_least)

  request_once : (x : ℕ) → x < n s
      → observerStep s freshObserver x 0 (request 1)
      ≡ (sends (LeaseGrant 1) leaving record { latest = 1; deadline = 0 + O s; last_reading = 0 })
  unfolding observerStep answer_of stores_of reading_after stores store_all store has_form form first refusal_of
  request_once x there =
      not_refused (request_refusals s freshObserver x 0 1) freshObserver _
      (passes_on (refusals s)
      (3 when not (has_form s freshObserver) ∷ 4 when bad_reading 0 0 ∷ 5 when (n s ≤? x)
      ∷ 6 when ((1 =? 0) || (top_counter <? 1)) ∷ [])
      refl ok (rw (lt-leb (n s) x there)))

  check_once : (o : Observer) (x g : ℕ) → x < n s → has_form s o ≡ true → last_reading_of o ≡ 0 → g ≤ top_reading
      → observerStep s o x g (check g) ≡ (sends (CheckAck g o.latest (status_at o g)) leaving at_reading g o)
  unfolding observerStep answer_of stores_of reading_after store_all first refusal_of
  check_once o x g there formed low top =
      not_refused (check_refusals s o x g g) o _
      (passes_on (refusals s) (3 when not (has_form s o) ∷ 4 when (bad_reading (last_reading_of o) g || (top_reading <? g))
      ∷ 5 when (n s ≤? x) ∷ []) refl ok
      (rw (formed, low, le-ltb top_reading g top, le-ltb g 0 zero-le, lt-leb (n s) x there)))

  -- ---- the first k observers get request 1, and their grants arrive

  granting : ℕ → List Event
  granting zero = at_recorder 0 0 tick ∷ []
  granting (suc k) = at_recorder 0 0 (grant k 1) ∷ (at_observer k 0 0 (request 1) ∷ granting k)

  record First (k : ℕ) : Type 0 where
    is_run_lem : IsRun (granting k)
    over : All (Over 0) (granting k)
    asked : was_sent (after (granting k)).history recorder (LeaseRequest 1) ≡ true
    early : sent_by 0 (after (granting k)).history ≡ true
    grants : List ℕ
    places : length grants ≡ 16
    is_recorder : (after (granting k)).recorder ≡ registering grants
    has : (x : ℕ) → x < k → 1 ≤ get_or grants x 0
    fresh : (y : ℕ) → k ≤ y → (after (granting k)).observers y ≡ freshObserver
    low : (y : ℕ) → last_reading_of ((after (granting k)).observers y) ≡ 0

  empty : IsRun []
  unfolding is_run
  empty = refl

  at_first : First 0
  unfolding granting state_after perform time readings_at on_clock delivered sent_by is_request posted
  at_first =
      let one = joins_at 0 (party_key recorder) [] (at_recorder 0 0 tick) empty none refl refl (on_even 0 zero-le) refl in
      let p =
      passes s ok window (le_refl (window s)) clocks 0 false nothing [] (held [] empty) 0 0 tick
      (adds ours s clocks [] (at_recorder 0 0 tick) one.0) in
      let step = tick_once p in
      record {
        is_run_lem = one.0;
        over = one.1;
        asked = rw step (was_sent_lem _ recorder (LeaseRequest 1) ([], [], 0, refl));
        early = rw step;
        grants = replicate 16 0;
        places = refl;
        is_recorder = rw step;
        has = λ x h. absurd (omega (arith, h));
        fresh = λ y h. refl;
        low = λ y. refl;
      }

  -- observer k
  module _ (k : ℕ) (there : k < n s) (f : First k) where
    abbrev asking : Event
    asking = at_observer k 0 0 (request 1)

    granted_first : observerStep s ((after (granting k)).observers k) k 0 (request 1)
        ≡ (sends (LeaseGrant 1) leaving record { latest = 1; deadline = 0 + O s; last_reading = 0 })
    granted_first = rw (f.fresh k (le_refl k)) (request_once k there)

    with_request : IsRun (asking ∷ granting k) × All (Over 0) (asking ∷ granting k)
    unfolding time readings_at on_clock delivered
    with_request =
        joins_at 0 (party_key (observer k)) (granting k) asking f.is_run_lem f.over refl refl (on_even 0 zero-le) f.asked

    with_grant_lem : IsRun (granting (suc k)) × All (Over 0) (granting (suc k))
    unfolding granting time readings_at on_clock delivered state_after perform posted
    with_grant_lem =
        joins_at 0 (party_key recorder) (asking ∷ granting k) (at_recorder 0 0 (grant k 1)) with_request.0 with_request.1
        refl refl (on_even 0 zero-le)
        (rw granted_first (was_sent_lem _ (observer k) (LeaseGrant 1) ([], (after (granting k)).history, 0, refl)))

    places_after : (after (granting (suc k))).recorder ≡ registering (set f.grants k (higher (get_or f.grants k 0) 1))
    unfolding granting state_after perform
    places_after =
        let p =
        passes s ok window (le_refl (window s)) clocks 0 false nothing (asking ∷ granting k)
        (held (asking ∷ granting k) with_request.0) 0 0 (grant k 1)
        (adds ours s clocks (asking ∷ granting k) (at_recorder 0 0 (grant k 1)) with_grant_lem.0) in
        rw f.is_recorder (grant_once f.grants k (rw f.is_recorder at p))

    has_after : (x : ℕ) → x < suc k → 1 ≤ get_or (set f.grants k (higher (get_or f.grants k 0) 1)) x 0
    has_after x h = by (x =? k) refl
      where
        by : (b : Bool) → (x =? k) ≡ b → 1 ≤ get_or (set f.grants k (higher (get_or f.grants k 0) 1)) x 0
        by true e =
            let place : k < length f.grants = omega (arith, f.places, there, (accepted_in_range s ok).n_greatest) in
            rw (eqb-true x k e, get_or-set_same f.grants k (higher (get_or f.grants k 0) 1) 0 place)
            (higher_least (get_or f.grants k 0) 1).1
        by false e =
            let other = eqb-false x k e in
            rw (get_or-set_other f.grants k x (higher (get_or f.grants k 0) 1) 0 other) (f.has x (omega (arith, other, h)))

    fresh_after : (y : ℕ) → suc k ≤ y → (after (granting (suc k))).observers y ≡ freshObserver
    unfolding granting state_after perform put
    fresh_after y h = rw (ne_eqb y k (λ e. let v : y ≡ k = e in omega arith)) (f.fresh y (omega arith))

    low_after : (y : ℕ) → last_reading_of ((after (granting (suc k))).observers y) ≡ 0
    unfolding granting state_after perform
    low_after =
        put_each (λ y o. last_reading_of o ≡ 0) (after (granting k)).observers k
        (observerStep s ((after (granting k)).observers k) k 0 (request 1)).rec
        (rw granted_first) (λ y other. f.low y)

    early_after : sent_by 0 (after (granting (suc k))).history ≡ true
    unfolding granting state_after perform sent_by
    early_after =
        posted_every (λ sent. not (is_request sent.what) || (sent.time ≤? 0)) recorder 0 _
        (after (asking ∷ granting k)).history
        (posted_every (λ sent. not (is_request sent.what) || (sent.time ≤? 0)) (observer k) 0 _
        (after (granting k)).history f.early (λ m q. or-true (not (is_request m))))
        (λ m q. or-true (not (is_request m)))

    first_more : First (suc k)
    unfolding granting state_after perform
    first_more =
        record {
          is_run_lem = with_grant_lem.0;
          over = with_grant_lem.1;
          asked =
              still_sent _ recorder (LeaseRequest 1) recorder 0 _
              (still_sent _ recorder (LeaseRequest 1) (observer k) 0 _ f.asked);
          early = early_after;
          grants = set f.grants k (higher (get_or f.grants k 0) 1);
          places = length-set f.grants k (higher (get_or f.grants k 0) 1) ∙ f.places;
          is_recorder = places_after;
          has = has_after;
          fresh = fresh_after;
          low = low_after;
        }

  all_grant : (k : ℕ) → k ≤ n s → First k
  all_grant zero h = at_first
  all_grant (suc k) h = first_more k h (all_grant k (omega arith))

  granted_all : First (n s)
  granted_all = all_grant (n s) (le_refl (n s))

  is_registered : registered s (after (granting (n s))).recorder ≡ true
  unfolding registered
  is_registered =
      let f = granted_all in
      rw f.is_recorder
      (everyone s ok (granted (registering f.grants) 1)
      (λ x h. granted_at (registering f.grants) 1 x (le_refl 1) ∙ le-leb 1 (get_or f.grants x 0) (f.has x h))
      ).0

  -- ---- the query, begun at the bound: the first k observers get the check, and their acks arrive

  abbrev bound : ℕ
  bound = 0 + 0 + O s + 2 * rounding s

  in_range_lem : bound ≤ top_reading
  in_range_lem = let range = accepted_in_range s ok in omega (arith, range.O_greatest, range.G_greatest)

  abbrev since : List Event → List Event
  since between = between ++ (at_standby bound bound begin ∷ granting (n s))

  -- the reply of observer k
  reply : (k : ℕ) → List Event → Event
  reply k past =
      at_standby bound bound (ack k bound ((after past).observers k).latest (status_at ((after past).observers k) bound))

  replying : ℕ → List Event
  replying zero = []
  replying (suc k) = reply k (since (replying k)) ∷ (at_observer k bound bound (check bound) ∷ replying k)

  record Second (k : ℕ) : Type 0 where
    is_run_lem : IsRun (since (replying k))
    over : All (Over bound) (since (replying k))
    asked : was_sent (after (since (replying k))).history standby (Check bound) ≡ true
    early : sent_by 0 (after (since (replying k))).history ≡ true
    low : (y : ℕ) → k ≤ y → last_reading_of ((after (since (replying k))).observers y) ≡ 0

  -- what the standby sends is no request
  no_request : (past : List Event) (e : StandbyEvent) (m : Message)
      → sent (step_within (window s) s (after past).standby bound e).answer ≡ message m
      → (not (is_request m) || (bound ≤? 0)) ≡ true
  unfolding is_request
  no_request past e m q = rw (standby_sends (window s) s (after past).standby bound e m q)

  begun : Second 0
  unfolding replying state_after perform time readings_at on_clock delivered posted sent_by
  begun =
      let f = granted_all in
      let past = granting (n s) in
      let one =
      joins_at bound (party_key standby) past (at_standby bound bound begin) f.is_run_lem
      (all_map (still_over 0 bound zero-le) f.over) refl refl
      (on_even bound in_range_lem) refl in
      let step =
      begins s ok window (le_refl (window s)) clocks 0 false nothing past (held past f.is_run_lem) bound bound
      (adds ours s clocks past (at_standby bound bound begin) one.0) in
      record {
        is_run_lem = one.0;
        over = one.1;
        asked = rw step (was_sent_lem _ standby (Check bound) ([], (after past).history, bound, refl));
        early =
            posted_every (λ sent. not (is_request sent.what) || (sent.time ≤? 0)) standby bound _ (after past).history
            f.early (no_request past begin);
        low = λ y h. f.low y;
      }

  module _ (k : ℕ) (there : k < n s) (f : Second k) where
    abbrev past : List Event
    past = since (replying k)

    abbrev o : Observer
    o = (after past).observers k

    abbrev checking : Event
    checking = at_observer k bound bound (check bound)

    answered : observerStep s o k bound (check bound)
        ≡ (sends (CheckAck bound o.latest (status_at o bound)) leaving at_reading bound o)
    answered = check_once o k bound there ((held past f.is_run_lem).observer_part k).form (f.low k (le_refl k)) in_range_lem

    with_check : IsRun (checking ∷ past) × All (Over bound) (checking ∷ past)
    unfolding time readings_at on_clock delivered
    with_check =
        joins_at bound (party_key (observer k)) past checking f.is_run_lem f.over refl refl (on_even bound in_range_lem) f.asked

    with_ack : IsRun (reply k past ∷ (checking ∷ past)) × All (Over bound) (reply k past ∷ (checking ∷ past))
    unfolding reply time readings_at on_clock delivered state_after perform posted
    with_ack =
        joins_at bound (party_key standby) (checking ∷ past) (reply k past) with_check.0 with_check.1 refl refl
        (on_even bound in_range_lem)
        (rw answered (was_sent_lem _ (observer k) (CheckAck bound o.latest (status_at o bound))
        ([], (after past).history, bound, refl)))

    early_check : sent_by 0 (after (checking ∷ past)).history ≡ true
    unfolding state_after perform sent_by posted is_request
    early_check = rw answered f.early

    early_ack : sent_by 0 (after (reply k past ∷ (checking ∷ past))).history ≡ true
    unfolding reply state_after perform sent_by
    early_ack =
        posted_every (λ sent. not (is_request sent.what) || (sent.time ≤? 0)) standby bound _
        (after (checking ∷ past)).history early_check
        (no_request (checking ∷ past) (ack k bound o.latest (status_at o bound)))

    low_then : (y : ℕ) → suc k ≤ y → last_reading_of ((after (reply k past ∷ (checking ∷ past))).observers y) ≡ 0
    unfolding reply state_after perform put
    low_then y h = rw (ne_eqb y k (λ e. let v : y ≡ k = e in omega arith)) (f.low y (omega arith))

    second_more : Second (suc k)
    unfolding replying reply state_after perform
    second_more =
        record {
          is_run_lem = with_ack.0;
          over = with_ack.1;
          asked =
              still_sent _ standby (Check bound) standby bound _
              (still_sent _ standby (Check bound) (observer k) bound _ f.asked);
          early = early_ack;
          low = low_then;
        }

  all_reply : (k : ℕ) → k ≤ n s → Second k
  all_reply zero h = begun
  all_reply (suc k) h = second_more k h (all_reply k (omega arith))

  -- ---- what is supposed of the run

  one_begin : (k : ℕ) → no_begin (replying k) ≡ true
  unfolding replying reply is_begin
  one_begin zero = refl
  one_begin (suc k) = one_begin k

  no_restart_lem : (k : ℕ) → no_restart (replying k) ≡ true
  unfolding replying reply is_restart
  no_restart_lem zero = refl
  no_restart_lem (suc k) = no_restart_lem k

  -- all that arrives arrives at once
  prompt_first : (history : List Sent) (k : ℕ) → every (prompt 0 history) (granting k) ≡ true
  unfolding granting prompt
  prompt_first history zero = refl
  prompt_first history (suc k) = holds_both (at_once history 1) (prompt_first history k)

  prompt_then : (history : List Sent) (k : ℕ) → every (prompt 0 history) (since (replying k)) ≡ true
  unfolding replying reply prompt
  prompt_then history zero = prompt_first history (n s)
  prompt_then history (suc k) = prompt_then history k

  -- the ack of each has arrived
  came : (x k : ℕ) → x < k → some (ack_from x bound (bound + Δ s)) (replying k) ≡ true
  unfolding replying reply ack_from
  came x zero h = absurd (omega arith)
  came x (suc k) h = by (x =? k) refl (came x k)
    where
      by : (b : Bool) → (x =? k) ≡ b → (x < k → some (ack_from x bound (bound + Δ s)) (replying k) ≡ true)
          → (((k =? x) && (bound =? bound) && (bound ≤? bound + Δ s)) || some (ack_from x bound (bound + Δ s)) (replying k))
          ≡ true
      by true e rest =
          rw (eq-eqb k x (sym (eqb-true x k e)), eq-eqb bound bound refl, le-leb bound (bound + Δ s) (omega arith))
      by false e rest =
          let other = eqb-false x k e in
          holds_either ((k =? x) && (bound =? bound) && (bound ≤? bound + Δ s)) (λ _. rest (omega (arith, h, other)))

  asked_all : Asked ours s clocks (since (replying (n s))) 0 0 [] (replying (n s)) (granting (n s)) bound bound
  asked_all =
      let f = all_reply (n s) (le_refl (n s)) in
      record {
        is_run_lem = f.is_run_lem;
        registered = (
          replying (n s) ++ (at_standby bound bound begin ∷ []),
          granting (n s),
          sym (append_assoc (replying (n s)) (at_standby bound bound begin ∷ []) (granting (n s))),
          is_registered,
        );
        last_sent = f.early;
        arrivals = prompt_then (after (since (replying (n s)))).history (n s);
        queried = refl;
        begun = omega arith;
        one_query = one_begin (n s);
        no_restart_lem = no_restart_lem (n s);
        replies =
            (everyone s ok (ackers bound (bound + Δ s) (replying (n s)))
            (λ x h.
            sixteen_of (λ x. some (ack_from x bound (bound + Δ s)) (replying (n s))) x
            (omega (arith, h, (accepted_in_range s ok).n_greatest))
            ∙ came x (n s) h)
            ).1;
      }

pub some_run_tells_dead_lem : SomeRunTellsDead
some_run_tells_dead_lem s ok =
    let between = replying s ok (n s) in
    let earlier = granting s ok (n s) in
    let g = bound s ok in
    let asked = asked_all s ok in
    record {
      clocks = clocks;
      run = since s ok between;
      f = 0;
      D = 0;
      later = [];
      between = between;
      earlier = earlier;
      g = g;
      ts = g;
      asked = asked;
      told = found_dead_lem s ok clocks (since s ok between) 0 0 [] between earlier g g asked;
    }
