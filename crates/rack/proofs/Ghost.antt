-- What the proof remembers of a run and the state does not hold: when and at what reading each request was sent, when the
-- recorder made its last step, and by when each observer had stored which counter. Facts about messages and observers in
-- these terms, and that time and further events take none of them away.
use Prim.Native.Nat.{ℕ, ◌+◌, ◌≤◌, ◌<◌}
use native.Mathlib.Omega.{arith}
use native.Mathlib.Nat.{le_trans, le_refl}
use mathlib.Core.Path.{◌≡◌, refl, ◌∙◌}
use mathlib.Core.Bool.{Bool, true}
use mathlib.Core.List.{List, [], ◌∷◌}
use mathlib.Core.Logic.{◌⊎◌, inl, ⊎_elim}
use Rattle.settings.specs.declared.Settings.{Settings}
use Rattle.settings.specs.Settings.{n, P, O, rounding}
use Rattle.quorums.specs.Quorums.{survives, closes, ◌∋◌}
use Rattle.messages.specs.declared.Status.{Status}
use Rattle.messages.specs.declared.Status.TheVariants.{Alive, Dead}
use Rattle.messages.specs.declared.Message.{Message}
use Rattle.messages.specs.declared.Message.TheVariants.{LeaseRequest, LeaseGrant, Check, CheckAck}
use Rattle.observer_rules.specs.declared.Observer.{Observer}
use Rattle.rack.specs.Clocks.{Clocks}
use Rattle.rack.specs.Runs.{Party, Sent}
use Rattle.rack.specs.Runs.Party.{recorder, standby, observer}
use Rattle.rack.proofs.Clocks.{Reads}
use Rattle.rack.proofs.History.{All, all_map}

-- at time v observer y stored the counter j
pub record Reach : Type 0 where
  pub y : ℕ
  pub j : ℕ
  pub v : ℕ

-- by time v observer y had stored j or more
abbrev pub By : List Reach → (y j v : ℕ) → Type 0
By [] y j v = ⊥
By (e ∷ es) y j v = ((e.y ≡ y) × (j ≤ e.j) × (e.v ≤ v)) ⊎ By es y j v

pub record Ghost : Type 0 where
  -- common time and reading at which request c was sent
  pub S : ℕ → ℕ
  pub σ : ℕ → ℕ
  -- common time of the recorder's last accepted step
  pub h : ℕ
  pub reached : List Reach

-- What may come later: more requests, more stores, none of them in the past.
pub record Extends (old : Ghost) (counter now : ℕ) (new : Ghost) (counter' now' : ℕ) : Type 0 where
  pub same_S : (c : ℕ) → c ≤ counter → new.S c ≡ old.S c
  pub counts : counter ≤ counter'
  pub later : now ≤ now'
  pub keeps : (y j v : ℕ) → By old.reached y j v → By new.reached y j v
  pub only_now : (y j v : ℕ) → By new.reached y j v → By old.reached y j v ⊎ (now ≤ v)

pub stays : (gh : Ghost) (counter now now' : ℕ) → now ≤ now' → Extends gh counter now gh counter now'
stays gh counter now now' h =
    record { same_S = λ c l. refl; counts = le_refl counter; later = h; keeps = λ y j v b. b; only_now = λ y j v b. inl b }

module _ (s : Settings) (clocks : Clocks) (L : ℕ) (p : Bool) where
  -- what stands behind an ack: the check it answers was sent at or before it; what the observer had stored before it is not
  -- above its counter; where it says Dead, the observers' lease had run since the request was sent; where it says Alive and
  -- requests arrive by time L only, it is not long after L
  pub record AckFact (gh : Ghost) (counter now x ts cnt : ℕ) (status : Status) : Type 0 where
    pub is_observer : x < n s
    pub said_at : ℕ
    pub begun_at : ℕ
    pub begun : Reads s clocks.standby begun_at ts
    pub after : begun_at ≤ said_at
    pub past : said_at ≤ now
    pub known : cnt ≤ counter
    pub low : (j v : ℕ) → By gh.reached x j v → v < said_at → j ≤ cnt
    pub dead : status ≡ Dead → 1 ≤ cnt → gh.S cnt + O s ≤ said_at + rounding s
    pub alive : p ≡ true → status ≡ Alive → said_at < L + O s + rounding s

  -- what stands behind each message of the history
  abbrev pub Behind : Ghost → (counter now : ℕ) → Party → Message → (t : ℕ) → Type 0
  Behind gh counter now by (LeaseRequest c) t = by ≡ recorder → (1 ≤ c) × (c ≤ counter) × (gh.S c ≡ t) × (t ≤ now)
  Behind gh counter now by (LeaseGrant c) t =
      (x : ℕ) → by ≡ observer x → By gh.reached x c t × (t ≤ now) × (x < n s) × (1 ≤ c) × (c ≤ counter)
  Behind gh counter now by (Check ts) t = by ≡ standby → Reads s clocks.standby t ts × (t ≤ now)
  Behind gh counter now by (CheckAck ts cnt status) t = (x : ℕ) → by ≡ observer x → AckFact gh counter now x ts cnt status

  -- the last store of observer x, of the request it has as its latest
  pub record StoreFact (gh : Ghost) (now top x : ℕ) (o : Observer) : Type 0 where
    pub stored_at : ℕ
    pub reading : ℕ
    pub sent_before : gh.S o.latest ≤ stored_at
    pub past : stored_at ≤ now
    pub read : Reads s (clocks.observer x) stored_at reading
    pub below : reading ≤ top
    pub runs : reading + O s ≤ o.deadline

  -- a lease that has ended with enough grants: they were stored before it was long over
  abbrev pub EndedFact : Ghost → (c : ℕ) → Type 0
  EndedFact gh c =
      (set : List Bool) × (survives s set ≡ true)
      × ((y : ℕ) → set ∋ y → (v : ℕ) × (v < gh.S c + P s + rounding s) × By gh.reached y (c + 1) v)

  -- request c is lost for good: a query quorum had stored nothing above it when it was long over
  pub record Doomed (gh : Ghost) (counter now c : ℕ) : Type 0 where
    pub sent : 1 ≤ c
    pub known : c ≤ counter
    pub over : gh.S c + P s + rounding s ≤ now
    pub set : List Bool
    pub query : closes s set ≡ true
    pub low : (y : ℕ) → set ∋ y → (j v : ℕ) → By gh.reached y j v → v < gh.S c + P s + rounding s → j ≤ c

  module _ {old : Ghost} {counter now : ℕ} {new : Ghost} {counter' now' : ℕ} (e : Extends old counter now new counter' now')
    where
      -- nothing new was stored before a time that is past
      nothing_new : (y j v t : ℕ) → t ≤ now → By new.reached y j v → v < t → By old.reached y j v
      nothing_new y j v t h b l = ⊎_elim (λ o. o) (λ n. absurd (omega (arith, n, l, h))) (e.only_now y j v b)

      pub ack_on : {x ts cnt : ℕ} {status : Status} → AckFact old counter now x ts cnt status
          → AckFact new counter' now' x ts cnt status
      ack_on {x} {ts} {cnt} a =
          record {
            is_observer = a.is_observer;
            said_at = a.said_at;
            begun_at = a.begun_at;
            begun = a.begun;
            after = a.after;
            past = le_trans a.past e.later;
            known = le_trans a.known e.counts;
            low = λ j v b l. a.low j v (nothing_new x j v a.said_at a.past b l) l;
            dead = λ d l. rw (e.same_S cnt a.known) (a.dead d l);
            alive = a.alive;
          }

      pub behind_on : (by : Party) (what : Message) (t : ℕ) → Behind old counter now by what t
          → Behind new counter' now' by what t
      behind_on by (LeaseRequest c) t f = λ who.
          let d = f who in (d.0, le_trans d.1 e.counts, e.same_S c d.1 ∙ d.2, le_trans d.3 e.later)
      behind_on by (LeaseGrant c) t f = λ x who.
          let d = f x who in (e.keeps x c t d.0, le_trans d.1 e.later, d.2, d.3, le_trans d.4 e.counts)
      behind_on by (Check ts) t f = λ who. let d = f who in (d.0, le_trans d.1 e.later)
      behind_on by (CheckAck ts cnt status) t f = λ x who. ack_on (f x who)

      pub history_on : {history : List Sent} → All (λ m. Behind old counter now m.by m.what m.time) history
          → All (λ m. Behind new counter' now' m.by m.what m.time) history
      history_on a = all_map (λ m f. behind_on m.by m.what m.time f) a

      pub store_on : {top top' x : ℕ} {o : Observer} → top ≤ top' → o.latest ≤ counter → StoreFact old now top x o
          → StoreFact new now' top' x o
      store_on {o = o} t k f =
          record {
            stored_at = f.stored_at;
            reading = f.reading;
            sent_before = rw (e.same_S o.latest k) f.sent_before;
            past = le_trans f.past e.later;
            read = f.read;
            below = le_trans f.below t;
            runs = f.runs;
          }

      pub ended_on : {c : ℕ} → c ≤ counter → EndedFact old c → EndedFact new c
      ended_on {c} k f = (
        f.0,
        f.1,
        λ y m. let g = f.2 y m in (g.0, rw (e.same_S c k) g.1, e.keeps y (c + 1) g.0 g.2),
      )

      pub doomed_on : {c : ℕ} → Doomed old counter now c → Doomed new counter' now' c
      doomed_on {c} d =
          let same = e.same_S c d.known in
          record {
            sent = d.sent;
            known = le_trans d.known e.counts;
            over = rw same (le_trans d.over e.later);
            set = d.set;
            query = d.query;
            low = λ y m j v b l.
                let l' : v < old.S c + P s + rounding s = rw same at l in
                d.low y m j v (nothing_new y j v (old.S c + P s + rounding s) d.over b l') l';
          }
