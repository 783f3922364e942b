-- How a round goes along a run: what ends it, and what its begin leaves.
use Prim.Native.Nat.{ℕ, ◌≤◌}
use native.Mathlib.Nat.{le_trans}
use mathlib.Core.Path.{◌≡◌, refl, ap, ◌∙◌}
use mathlib.Core.Bool.{Bool, true, not}
use mathlib.Core.List.{List, [], ◌∷◌, ◌++◌}
use Rattle.words.specs.Lists.{every}
use Rattle.words.specs.Said.{Said}
use Rattle.words.proofs.Booleans.{both_hold, not_both}
use Rattle.settings.specs.declared.Settings.{Settings}
use Rattle.settings.specs.Settings.{window, refusal_of}
use Rattle.quorums.specs.Quorums.{closes}
use Rattle.messages.specs.declared.Status.{Status}
use Rattle.messages.specs.declared.Message.TheVariants.{Check}
use Rattle.messages.specs.Answers.{Spoken, refuses, sends}
use Rattle.messages.specs.Outcomes.{Outcome, ◌leaving◌}
use Rattle.messages.proofs.Outcomes.{not_refused}
use Rattle.standby_rules.specs.declared.Standby.{Standby}
use Rattle.standby_rules.specs.Standby.{step_within, begin_event, begin_refusals, has_open_round, opened, kept_marks, keeping, verdict}
use Rattle.standby_rules.specs.declared.StandbyEvent.{StandbyEvent}
use Rattle.standby_rules.specs.declared.StandbyEvent.TheVariants.{Begin as begin, Ack as ack}
use Rattle.standby_rules.proofs.Refusals.{Admitted, begin_passes}
use Rattle.standby_rules.proofs.Rounds.{same_ts}
use Rattle.standby_rules.proofs.Ways.{Way, way}
use Rattle.standby_rules.proofs.Ways.Way.{refusing, beginning, expiring, staying, closing, counting}
use Rattle.rack.specs.Clocks.{Clocks}
use Rattle.rack.specs.Runs.{Rules, ours_within, Event, party_key, readings_at, perform, on_clock, state_after, answer_to}
use Rattle.rack.specs.Runs.Event.{at_recorder, at_observer, at_standby, crash, restart}
use Rattle.rack.specs.Runs.Party.{standby}
use Rattle.rack.specs.Claims.{Ended, is_begin}
use Rattle.rack.proofs.Clocks.{is_reading}
use Rattle.rack.proofs.Ends.{not_ended, only_standby}
use Rattle.rack.proofs.Invariant.{Marks}
use Rattle.rack.proofs.Along.{reading_of, Adds, Holds}

-- what does not count as a begin is none
pub no_begin_lem : (g r : ℕ) (e : StandbyEvent) → not (is_begin (at_standby g r e)) ≡ true → e ≡ begin → ⊥
unfolding is_begin
no_begin_lem g r e nb same = not_both (rw same at nb) refl

-- the ack that closes a round, in time, with its verdict
pub record Closing (w : ℕ) (s : Settings) (q : Standby) (e : Event) (answer : Said Spoken) : Type 0 where
  pub g : ℕ
  pub r : ℕ
  pub x : ℕ
  pub cnt : ℕ
  pub status : Status
  pub is_ack : e ≡ at_standby g r (ack x q.ts cnt status)
  pub was_open : has_open_round q ≡ true
  pub query : closes s (kept_marks (keeping x cnt status q.places)) ≡ true
  pub says_so : answer ≡ verdict (keeping x cnt status q.places)

module _ (w : ℕ) (s : Settings) (q : Standby) (g r : ℕ) where
  closed_by_lem : {e : StandbyEvent} {out : Outcome Standby} → Way w s q r e out → Ended out.answer
      → Closing w s q (at_standby g r e) out.answer
  closed_by_lem (refusing _ k) = not_ended (refuses k) refl
  closed_by_lem beginning = not_ended _ refl
  closed_by_lem (expiring _ _) = not_ended _ refl
  closed_by_lem (staying _ _) = not_ended _ refl
  closed_by_lem (closing x cnt status kept quorum) = λ _.
      record {
        g = g;
        r = r;
        x = x;
        cnt = cnt;
        status = status;
        is_ack = refl;
        was_open = kept.counted.open_round;
        query = quorum;
        says_so = refl;
      }
  closed_by_lem (counting _ _ _ _) = not_ended _ refl

-- only an ack that closes its round ends it
pub ended_by : (w : Settings → ℕ) (s : Settings) (past : List Event) (e : Event) → Ended (answer_to (ours_within w) s past e)
    → Closing (w s) s (state_after (ours_within w) s past).standby e (answer_to (ours_within w) s past e)
unfolding answer_to perform
ended_by w s past e ended =
    let q = (state_after (ours_within w) s past).standby in
    only_standby w s past
    (λ v. Ended (answer_to (ours_within w) s past v) → Closing (w s) s q v (answer_to (ours_within w) s past v))
    (λ g r v. closed_by_lem (w s) s q g r (way (w s) s q r v)) e ended ended

-- ---- a begin is never refused in a run

module _ (s : Settings) (ok : refusal_of s ≡ 0) (w : Settings → ℕ) (window_fits : w s ≤ window s) (clocks : Clocks) (L : ℕ)
    (p : Bool) where
  abbrev rules : Rules
  rules = ours_within w

  abbrev standby_after : List Event → Standby
  standby_after events = (state_after rules s events).standby

  module _ (marks : Marks) (past : List Event) (inv : Holds s ok w window_fits clocks L p marks past) (g r : ℕ) where
    pub admits : (e : StandbyEvent) → Adds rules s clocks past (at_standby g r e) → Admitted s (standby_after past) r
    unfolding on_clock readings_at
    admits e add =
        let no_fall = reading_of past (at_standby g r e) (record { who = party_key standby; r = r }) refl add.no_fall in
        record {
          settings = ok;
          formed = inv.standby_part.form;
          in_range_lem = (is_reading s clocks.standby g r add.on_clock_lem).1;
          no_fall = le_trans inv.standby_part.read no_fall;
        }

    module _ (add : Adds rules s clocks past (at_standby g r begin)) where
      pub begins : step_within (w s) s (standby_after past) r begin ≡ (sends (Check r) leaving opened r)
      unfolding step_within begin_event
      begins =
          let q = standby_after past in
          not_refused (begin_refusals s q r) q (sends (Check r) leaving opened r) (begin_passes s q r (admits begin add))

      pub begin_opens : standby_after (at_standby g r begin ∷ past) ≡ opened r
      unfolding state_after perform
      begin_opens = ap (λ (o : Outcome Standby). o.rec) begins

  -- while no round is begun the open round is the same
  module _ (earlier : List Event) (g ts : ℕ) (at_begin : standby_after (at_standby g ts begin ∷ earlier) ≡ opened ts) where
    pub same_round : (between : List Event) → every (λ e. not (is_begin e)) between ≡ true
        → has_open_round (standby_after (between ++ (at_standby g ts begin ∷ earlier))) ≡ true
        → (standby_after (between ++ (at_standby g ts begin ∷ earlier))).ts ≡ ts
    unfolding state_after perform is_begin
    same_round [] nb is_open = ap (λ (q : Standby). q.ts) at_begin
    same_round (e ∷ between) nb is_open =
        let n = both_hold (not (is_begin e)) (every (λ e. not (is_begin e)) between) nb in
        by e n.0 is_open (same_round between n.1)
      where
        by : (e : Event) → not (is_begin e) ≡ true
            → has_open_round (standby_after (e ∷ (between ++ (at_standby g ts begin ∷ earlier)))) ≡ true
            → (has_open_round (standby_after (between ++ (at_standby g ts begin ∷ earlier))) ≡ true
            → (standby_after (between ++ (at_standby g ts begin ∷ earlier))).ts ≡ ts)
            → (standby_after (e ∷ (between ++ (at_standby g ts begin ∷ earlier)))).ts ≡ ts
        by (at_recorder g' r e) nb is_open rest = rest is_open
        by (at_observer x g' r e) nb is_open rest = rest is_open
        by (crash x g') nb is_open rest = rest is_open
        -- the round is gone
        by (restart g') nb is_open rest = absurd (not_both is_open refl)
        by (at_standby g' r e) nb is_open rest =
            let q = standby_after (between ++ (at_standby g ts begin ∷ earlier)) in
            let k = same_ts (w s) s q r (way (w s) s q r e) (no_begin_lem g' r e nb) is_open in
            k.1 ∙ rest k.0
