-- The invariant of runs, in parts: recorder, observers, standby and history, each in the terms of proofs/Ghost.antt.
use Prim.Native.Nat.{ℕ, ◌+◌, ◌≤◌, ◌<◌}
use native.Mathlib.Nat.{le_trans}
use mathlib.Core.Path.{◌≡◌}
use mathlib.Core.Bool.{Bool, true}
use mathlib.Core.List.{List, [], ◌∷◌}
use mathlib.Core.Logic.{◌⊎◌, inl, inr, ⊎_elim}
use lib.ListN.{length, get_or}
use Rattle.settings.specs.declared.Settings.{Settings}
use Rattle.settings.specs.Settings.{O}
use Rattle.quorums.specs.Quorums.{survives, ◌∋◌}
use Rattle.messages.specs.declared.Message.{Message}
use Rattle.recorder_rules.specs.declared.Recorder.{Recorder}
use Rattle.recorder_rules.specs.Recorder.{last_reading_of as lastOfRecorder, oldest}
use Rattle.recorder_rules.proofs.Keeping.{Good}
use Rattle.recorder_rules.proofs.Steps.{IsOpen, sent_at}
use Rattle.observer_rules.specs.declared.Observer.{Observer}
use Rattle.observer_rules.specs.Observer.{has_form as observerHasForm}
use Rattle.standby_rules.specs.declared.Place.{Place}
use Rattle.standby_rules.specs.declared.Standby.{Standby}
use Rattle.standby_rules.specs.Standby.{has_form as standbyHasForm, last_reading_of as lastOfStandby, unused}
use Rattle.standby_rules.specs.Claims.{Kept}
use Rattle.rack.specs.Clocks.{Clocks}
use Rattle.rack.specs.Runs.{State, Party, Sent, party_key, was_sent}
use Rattle.rack.specs.Runs.Party.{recorder, standby, observer}
use Rattle.rack.proofs.Clocks.{Reads}
use Rattle.rack.proofs.History.{All, sent_has}
use Rattle.rack.proofs.Ghost.{By, Ghost, Extends, AckFact, Behind, StoreFact, EndedFact, Doomed, ack_on, store_on}

-- What the run has come to: the standby was told dead; the recorder had registered; and a round of this ts in which these
-- places were kept, for a claim to come back to.
pub record Marks : Type 0 where
  pub told : Bool
  pub reg : Bool
  pub ts : ℕ
  pub places : List Place

module _ (s : Settings) (clocks : Clocks) (L : ℕ) (p : Bool) where
  pub record RecorderPart (gh : Ghost) (now : ℕ) (rec : Recorder) : Type 0 where
    pub good : Good s rec
    -- the last accepted step, if there was one
    pub h_past : gh.h ≤ now
    pub last : 1 ≤ rec.counter → Reads s clocks.recorder gh.h (lastOfRecorder rec)
    -- when each request was sent
    pub sent : (c : ℕ) → 1 ≤ c → c ≤ rec.counter → Reads s clocks.recorder (gh.S c) (gh.σ c) × (gh.S c ≤ gh.h)
    -- the open leases have these readings
    pub opened : (i : ℕ) → IsOpen rec i → sent_at rec i ≡ gh.σ i
    -- the others had their grants in time
    pub ended : rec.stopped ≡ 0 → (c : ℕ) → 1 ≤ c → c < oldest rec → EndedFact s clocks L p gh c
    -- what an observer's place holds, it had stored
    pub granted : (y j : ℕ) → 1 ≤ j → j ≤ get_or rec.grants y 0 → By gh.reached y j gh.h

  -- the deadline was set at a reading by time L
  abbrev pub SetEarly : (now x deadline : ℕ) → Type 0
  SetEarly now x deadline =
      (deadline ≡ 0) ⊎ ((u : ℕ) × (ρ : ℕ) × (u ≤ L) × (u ≤ now) × Reads s (clocks.observer x) u ρ × (deadline ≡ ρ + O s))

  pub record ObserverPart (gh : Ghost) (counter now top x : ℕ) (o : Observer) : Type 0 where
    pub form : observerHasForm s o ≡ true
    pub known : o.latest ≤ counter
    pub store : 1 ≤ o.latest → StoreFact s clocks L p gh now top x o
    pub highest : (j v : ℕ) → By gh.reached x j v → j ≤ o.latest
    -- where requests arrive by time L only
    pub set_early : p ≡ true → SetEarly now x o.deadline

  -- an ack stands behind each place that is kept
  abbrev pub Acked : Ghost → (counter now ts : ℕ) → List Place → Type 0
  Acked gh counter now ts places =
      (x : ℕ) → Kept places x → AckFact s clocks L p gh counter now x ts (get_or places x unused).counter
      (get_or places x unused).status

  pub record StandbyPart (gh : Ghost) (counter now top : ℕ) (q : Standby) : Type 0 where
    pub form : standbyHasForm s q ≡ true
    pub sized : length q.places ≡ 16
    pub read : lastOfStandby q ≤ top
    pub kept : Acked gh counter now q.ts q.places

  -- what every message of the history has behind it
  abbrev pub HistoryPart : Ghost → (counter now : ℕ) → List Sent → Type 0
  HistoryPart gh counter now history = All (λ m. Behind s clocks L p gh counter now m.by m.what m.time) history

  pub record Inv (marks : Marks) (now : ℕ) (top : ℕ → ℕ) (st : State) : Type 0 where
    pub gh : Ghost
    pub recorder_part : RecorderPart gh now st.recorder
    pub recorder_read : lastOfRecorder st.recorder ≤ top (party_key recorder)
    pub observer_part : (x : ℕ) → ObserverPart gh st.recorder.counter now (top (party_key (observer x))) x (st.observers x)
    pub standby_part : StandbyPart gh st.recorder.counter now (top (party_key standby)) st.standby
    pub history_part : HistoryPart gh st.recorder.counter now st.history
    pub early : p ≡ true → (y j v : ℕ) → By gh.reached y j v → By gh.reached y j L
    pub doom : marks.told ≡ true → (c : ℕ) × Doomed s clocks L p gh st.recorder.counter now c
    pub registered_early : marks.reg ≡ true → p ≡ true
        → (set : List Bool) × (survives s set ≡ true) × ((y : ℕ) → set ∋ y → By gh.reached y 1 L)
    pub noted : Acked gh st.recorder.counter now marks.ts marks.places

  -- what is delivered was sent at some time, and has it too
  pub behind : {marks : Marks} {now : ℕ} {top : ℕ → ℕ} {st : State} (inv : Inv marks now top st) (by : Party) (what : Message)
      → was_sent st.history by what ≡ true → (t : ℕ) × Behind s clocks L p inv.gh st.recorder.counter now by what t
  behind {now = now} {st = st} inv by what came =
      sent_has (λ m. Behind s clocks L p inv.gh st.recorder.counter now m.by m.what m.time) by what
      st.history
      inv.history_part came

  -- ---- what stays when other parts of the state change

  module _ {old : Ghost} {counter now : ℕ} {new : Ghost} {counter' now' : ℕ} (e : Extends old counter now new counter' now')
    where
      pub observer_on : {top top' x : ℕ} {o : Observer} → top ≤ top'
          → ((j v : ℕ) → By new.reached x j v → By old.reached x j v)
          → ObserverPart old counter now top x o → ObserverPart new counter' now' top' x o
      observer_on t same f =
          record {
            form = f.form;
            known = le_trans f.known e.counts;
            store = λ l. store_on s clocks L p e t f.known (f.store l);
            highest = λ j v b. f.highest j v (same j v b);
            set_early = λ q. ⊎_elim inl (λ d. inr (d.0, d.1, d.2, le_trans d.3 e.later, d.4, d.5)) (f.set_early q);
          }

      pub recorder_on : {rec : Recorder} → new.S ≡ old.S → new.σ ≡ old.σ → new.h ≡ old.h → RecorderPart old now rec
          → RecorderPart new now' rec
      recorder_on {rec} a b c f =
          record {
            good = f.good;
            h_past = rw c (le_trans f.h_past e.later);
            last = λ l. rw c (f.last l);
            sent = λ k l m. rw (a, b, c) (f.sent k l m);
            opened = λ i o. rw b (f.opened i o);
            ended = λ z k l m.
                let d = f.ended z k l m in
                (d.0, d.1, λ y i. let v = d.2 y i in (v.0, rw a v.1, e.keeps y (k + 1) v.0 v.2));
            granted = λ y j l k. rw c (e.keeps y j old.h (f.granted y j l k));
          }

      pub standby_on : {top top' : ℕ} {q : Standby} → top ≤ top' → StandbyPart old counter now top q
          → StandbyPart new counter' now' top' q
      standby_on t f =
          record {
            form = f.form;
            sized = f.sized;
            read = le_trans f.read t;
            kept = λ x k. ack_on s clocks L p e (f.kept x k);
          }

-- by a later time, or less
pub by_weaker : (es : List Rattle.rack.proofs.Ghost.Reach) (y j k v t : ℕ) → k ≤ j → v ≤ t → By es y j v → By es y k t
by_weaker [] y j k v t h l b = b
by_weaker (e ∷ es) y j k v t h l (inl b) = inl (b.0, le_trans h b.1, le_trans b.2 l)
by_weaker (e ∷ es) y j k v t h l (inr b) = inr (by_weaker es y j k v t h l b)
