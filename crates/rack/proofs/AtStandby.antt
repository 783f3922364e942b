-- An event at the standby, and a restart of it, keep the invariant, and when it is told dead the request that it names is
-- doomed.
use Prim.Native.Nat.{ℕ, ◌+◌, ◌≤◌, ◌<◌}
use native.Mathlib.Omega.{arith}
use native.Mathlib.Nat.{le_trans, le_refl}
use mathlib.Core.Path.{◌≡◌, refl, sym, ◌∙◌}
use mathlib.Core.Bool.{Bool, true}
use mathlib.Core.List.{List}
use mathlib.Core.Logic.{◌⊎◌, inl, inr, ⊎_elim}
use lib.ListN.{get_or-map}
use Rattle.words.specs.Said.{Said}
use Rattle.words.proofs.Walks.{after_store}
use Rattle.settings.specs.declared.Settings.{Settings}
use Rattle.settings.specs.Settings.{O, rounding, window, refusal_of}
use Rattle.quorums.specs.Quorums.{◌∋◌}
use Rattle.settings.proofs.Laws.{accepted_in_range, window_law}
use Rattle.messages.specs.declared.Status.{Status}
use Rattle.messages.specs.declared.Message.{Message}
use Rattle.messages.specs.declared.Message.TheVariants.{CheckAck}
use Rattle.messages.specs.Answers.{Spoken, says_of, sent, message}
use Rattle.messages.specs.Outcomes.{Outcome}
use Rattle.standby_rules.specs.declared.Place.{Place}
use Rattle.standby_rules.specs.declared.Standby.{Standby}
use Rattle.standby_rules.specs.Standby.{step_within, unused, kept_marks, keeping, last_reading_of, fresh}
use Rattle.standby_rules.specs.declared.StandbyEvent.{StandbyEvent as Event}
use Rattle.standby_rules.specs.declared.StandbyEvent.TheVariants.{Ack as ack}
use Rattle.standby_rules.specs.Claims.{Kept}
use Rattle.standby_rules.proofs.Forms.{form_is_kept_lem}
use Rattle.standby_rules.proofs.Verdicts.{verdicts_hold_lem}
use Rattle.standby_rules.proofs.Rounds.{dead_in_window_lem, none_kept}
use Rattle.standby_rules.proofs.Ways.{Way, way, standby_sends}
use Rattle.standby_rules.proofs.Ways.Way.{refusing, beginning, expiring, staying, closing, counting}
use Rattle.rack.specs.Clocks.{Clocks}
use Rattle.rack.specs.Runs.{State, party_key, posted, delivered, was_sent}
use Rattle.rack.specs.Runs.Event.{at_standby}
use Rattle.rack.specs.Runs.Party.{standby, observer}
use Rattle.rack.proofs.Clocks.{Reads, lower}
use Rattle.rack.proofs.History.{posted_all}
use Rattle.rack.proofs.Ghost.{Ghost, Extends, stays, AckFact, Behind, Doomed, ack_on, history_on, doomed_on}
use Rattle.rack.proofs.Invariant.{Acked, StandbyPart, Marks, Inv, behind, observer_on, recorder_on}

-- the state after the standby's step
abbrev pub after_standby : State → (g : ℕ) → Outcome Standby → State
after_standby st g out =
    record {
      recorder = st.recorder;
      observers = st.observers;
      standby = out.rec;
      history = posted standby g out.answer st.history;
    }

-- the marks after an event may say what it shows: that the standby is told dead, or the round that its ack counts in
pub record ShowsFrom (marks : Marks) (q : Standby) (event : Event) (answer : Said Spoken) (marks' : Marks) : Type 0 where
  pub dead : marks'.told ≡ true → (marks.told ≡ true) ⊎ ((m : ℕ) × (answer ≡ says_of "dead" m))
  pub registered : marks'.reg ≡ marks.reg
  pub round : ((marks'.ts ≡ marks.ts) × (marks'.places ≡ marks.places))
      ⊎ ((x : ℕ) × (cnt : ℕ) × (status : Status) × (event ≡ ack x q.ts cnt status) × (marks'.ts ≡ q.ts)
      × (marks'.places ≡ keeping x cnt status q.places))

-- a restart: the record is the fresh one, and all else stays
pub restart_kept : (s : Settings) (clocks : Clocks) (L : ℕ) (p : Bool) {marks : Marks} {now : ℕ} {top : ℕ → ℕ} {st : State}
    → Inv s clocks L p marks now top st → (g : ℕ) (top' : ℕ → ℕ) → now ≤ g → ((k : ℕ) → top k ≤ top' k)
    → Inv s clocks L p marks g top'
    (record { recorder = st.recorder; observers = st.observers; standby = fresh; history = st.history })
restart_kept s clocks L p {marks} {now} {top} {st} inv g top' later up =
    let ext = stays inv.gh st.recorder.counter now g later in
    let f = form_is_kept_lem.at_first s in
    record {
      gh = inv.gh;
      recorder_part = recorder_on s clocks L p ext refl refl refl inv.recorder_part;
      recorder_read = le_trans inv.recorder_read (up _);
      observer_part = λ x. observer_on s clocks L p ext (up _) (λ j v b. b) (inv.observer_part x);
      standby_part = record { form = f.0; sized = f.1; read = omega arith; kept = λ x k. absurd (none_kept x k) };
      history_part = history_on s clocks L p ext inv.history_part;
      early = inv.early;
      doom = λ t. let d = inv.doom t in (d.0, doomed_on s clocks L p ext d.1);
      registered_early = inv.registered_early;
      noted = λ x k. ack_on s clocks L p ext (inv.noted x k);
    }

module _ (s : Settings) (ok : refusal_of s ≡ 0) (w : ℕ) (window_fits : w ≤ window s) (clocks : Clocks) (L : ℕ) (p : Bool)
    {marks : Marks} {now : ℕ} {top : ℕ → ℕ} {st : State} (inv : Inv s clocks L p marks now top st)
    (g r : ℕ) (top' : ℕ → ℕ) (later : now ≤ g) (up : (k : ℕ) → top k ≤ top' k)
    (read : Reads s clocks.standby g r) (seen : r ≤ top' (party_key standby))
    (event : Event) (arrived : delivered st.history (at_standby g r event) ≡ true) where
  abbrev counter : ℕ
  counter = st.recorder.counter

  abbrev gh : Ghost
  gh = inv.gh

  abbrev q : Standby
  q = st.standby

  abbrev out : Outcome Standby
  out = step_within w s q r event

  part : StandbyPart s clocks L p gh counter now (top (party_key standby)) q
  part = inv.standby_part

  ext : Extends gh counter now gh counter g
  ext = stays gh counter now g later

  -- an ack that arrives was sent
  ack_sent : (x ts cnt : ℕ) (status : Status) → event ≡ ack x ts cnt status → AckFact s clocks L p gh counter g x ts cnt status
  unfolding delivered
  ack_sent x ts cnt status e =
      let came : was_sent st.history (observer x) (CheckAck ts cnt status) ≡ true = rw e at arrived in
      ack_on s clocks L p ext ((behind s clocks L p inv (observer x) (CheckAck ts cnt status) came).1 x refl)

  -- what is kept once this ack is
  kept_with : (x cnt : ℕ) (status : Status) → event ≡ ack x q.ts cnt status
      → Acked s clocks L p gh counter g q.ts (keeping x cnt status q.places)
  kept_with x cnt status e y k =
      ⊎_elim (λ old. rw old (ack_on s clocks L p ext (part.kept y (rw old at k))))
      (λ mine. rw (mine.1, mine.0) (ack_sent x q.ts cnt status e))
      (after_store unused q.places x (record { kept = true; counter = cnt; status = status }) y)

  -- ---- the record after the step

  abbrev Rest : Outcome Standby → Type 0
  Rest o =
      (last_reading_of o.rec ≤ top' (party_key standby)) × Acked s clocks L p gh counter g o.rec.ts o.rec.places

  rest : {e : Event} {o : Outcome Standby} → Way w s q r e o → event ≡ e → Rest o
  rest (refusing _ k) same = (le_trans part.read (up _), λ x k. ack_on s clocks L p ext (part.kept x k))
  rest beginning same = (seen, λ x k. absurd (none_kept x k))
  rest (expiring _ _) same = (seen, λ x k. absurd (none_kept x k))
  rest (staying _ _) same = (seen, λ x k. ack_on s clocks L p ext (part.kept x k))
  rest (closing _ _ _ _ _) same = (seen, λ x k. absurd (none_kept x k))
  rest (counting x cnt status _) same = (seen, kept_with x cnt status same)

  after_part : StandbyPart s clocks L p gh counter g (top' (party_key standby)) out.rec
  after_part =
      let f = form_is_kept_lem.by_steps w s q r event part.sized part.form in
      let d = rest (way w s q r event) refl in
      record { form = f.0; sized = f.1; read = d.0; kept = d.1 }

  news : (m : Message) → sent out.answer ≡ message m → Behind s clocks L p gh counter g standby m g
  news m e = rw (standby_sends w s q r event m e) (λ _. (read, le_refl g))

  -- ---- told dead

  is_kept : (places : List Place) (y : ℕ) → kept_marks places ∋ y → Kept places y
  is_kept places y m = sym (get_or-map (λ place. place.kept) places y unused) ∙ m

  doomed : (m : ℕ) → out.answer ≡ says_of "dead" m → Doomed s clocks L p gh counter g m
  doomed m told_dead =
      let d = dead_in_window_lem w s q r event m told_dead in
      let places = keeping d.0 d.1 d.2 q.places in
      let v = verdicts_hold_lem.dead places m d.6 in
      let one = v.2 in
      let each = kept_with d.0 d.1 d.2 d.3 in
      let named = each one.0 one.1 in
      let since : gh.S m + O s ≤ named.said_at + rounding s = rw one.2 at (named.dead one.3 (rw one.2 v.0)) in
      let spare = window_law s ok in
      record {
        sent = v.0;
        known = rw one.2 at named.known;
        over = omega (arith, named.past);
        set = kept_marks places;
        query = d.5;
        low = λ y marked j v' b early.
            let k = is_kept places y marked in
            let a = each y k in
            let gain = lower a.begun read (le_trans a.after a.past) in
            let above = (verdicts_hold_lem.is_greatest places).none_higher y k in
            let least = (accepted_in_range s ok).P_least in
            let soon : v' < a.said_at =
            omega (arith, early, since, named.past, a.after, a.past, gain, d.4, spare, window_fits, least) in
            let less = a.low j v' b soon in
            omega (arith, above, less, v.1);
      }

  pub standby_kept : (marks' : Marks) → ShowsFrom marks q event out.answer marks'
      → Inv s clocks L p marks' g top' (after_standby st g out)
  standby_kept marks' shows =
      record {
        gh = gh;
        recorder_part = recorder_on s clocks L p ext refl refl refl inv.recorder_part;
        recorder_read = le_trans inv.recorder_read (up _);
        observer_part = λ x. observer_on s clocks L p ext (up _) (λ j v b. b) (inv.observer_part x);
        standby_part = after_part;
        history_part =
            posted_all (λ m. Behind s clocks L p gh counter g m.by m.what m.time) standby g out.answer st.history
            (history_on s clocks L p ext inv.history_part) news;
        early = inv.early;
        doom = λ t.
            ⊎_elim (λ before. let d = inv.doom before in (d.0, doomed_on s clocks L p ext d.1))
            (λ n. (n.0, doomed n.0 n.1)) (shows.dead t);
        registered_early = λ t. inv.registered_early (sym shows.registered ∙ t);
        noted = note shows.round;
      }
    where
      note : ((marks'.ts ≡ marks.ts) × (marks'.places ≡ marks.places))
          ⊎ ((x : ℕ) × (cnt : ℕ) × (status : Status) × (event ≡ ack x q.ts cnt status) × (marks'.ts ≡ q.ts)
          × (marks'.places ≡ keeping x cnt status q.places))
          → Acked s clocks L p gh counter g marks'.ts marks'.places
      note (inl a) = rw (a.0, a.1) (λ x k. ack_on s clocks L p ext (inv.noted x k))
      note (inr a) = rw (a.4, a.5) (kept_with a.0 a.1 a.2 a.3)
