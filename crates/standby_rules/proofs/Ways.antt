-- The ways that a step of the standby can go, within any window, each with its answer and with what it leaves.
use Prim.Native.Nat.{ℕ, ◌-◌, ◌≤◌, ◌<◌}
use mathlib.Core.Path.{◌≡◌, refl, sym, ◌∙◌}
use mathlib.Core.Bool.{true, false}
use lib.ListN.{get_or}
use borrow.Author.Tests.{ltb-true, ltb-false}
use Rattle.words.specs.Said.{first}
use Rattle.settings.specs.declared.Settings.{Settings}
use Rattle.quorums.specs.Quorums.{closes}
use Rattle.messages.specs.declared.Status.{Status}
use Rattle.messages.specs.declared.Message.{Message}
use Rattle.messages.specs.declared.Message.TheVariants.{Check}
use Rattle.messages.specs.Answers.{refuses, sends, says, sent, nothing, message}
use Rattle.messages.specs.Outcomes.{Outcome, ◌leaving◌}
use Rattle.messages.proofs.Outcomes.{either_way, nothing_is_no_message, same_message}
use Rattle.standby_rules.specs.declared.Standby.{Standby}
use Rattle.standby_rules.specs.declared.StandbyEvent.{StandbyEvent}
use Rattle.standby_rules.specs.declared.StandbyEvent.TheVariants.{Begin, Ack, Poll}
use Rattle.standby_rules.specs.Standby.{has_open_round, is_late, opened, closed, at_reading, kept_marks, keeping, verdict, begin_event, refusals_of, event_within, step_within}
use Rattle.standby_rules.proofs.Refusals.{Counted, poll_admitted, ack_counted, kept_open, each_ack, each_poll}
use Rattle.standby_rules.proofs.Verdicts.{by_verdict}

-- an ack of the open round that is kept: not refused, the first of its observer, within the window
pub record First (w : ℕ) (s : Settings) (q : Standby) (r x cnt : ℕ) : Type 0 where
  pub counted : Counted s q r x q.ts cnt
  pub is_first : get_or (kept_marks q.places) x false ≡ false
  pub in_time_lem : r - q.ts ≤ w

pub data Way (w : ℕ) (s : Settings) (q : Standby) (r : ℕ) : StandbyEvent → Outcome Standby → Type 0 where
  refusing : (event : StandbyEvent) (k : ℕ) → Way w s q r event (refuses k leaving q)
  beginning : Way w s q r Begin (sends (Check r) leaving opened r)
  expiring : (event : StandbyEvent) → w < r - q.ts → Way w s q r event (says "late" leaving closed r)
  -- a poll, or a second ack
  staying : (event : StandbyEvent) → has_open_round q ≡ true → Way w s q r event (says "waiting" leaving at_reading r q)
  -- a first ack: the last one, or not
  closing : (x cnt : ℕ) (status : Status) → First w s q r x cnt → closes s (kept_marks (keeping x cnt status q.places)) ≡ true
      → Way w s q r (Ack x q.ts cnt status) (verdict (keeping x cnt status q.places) leaving closed r)
  counting : (x cnt : ℕ) (status : Status) → First w s q r x cnt
      → Way w s q r (Ack x q.ts cnt status) (says "waiting" leaving kept_open q r (keeping x cnt status q.places))

module _ (w : ℕ) (s : Settings) (q : Standby) (r : ℕ) where
  done : (event : StandbyEvent) → first (refusals_of s q r event) ≡ 0 → Way w s q r event (event_within w s q r event)
  unfolding begin_event
  done Begin ok = beginning
  done Poll ok =
      each_poll w q r (Way w s q r Poll) (λ late. expiring Poll (ltb-true _ _ late))
      (λ _. staying Poll (poll_admitted s q r ok).1)
  done (Ack x ts cnt status) ok =
      let a = ack_counted s q r x ts cnt ok in
      let kept : has_open_round q ≡ true = a.open_round in
      let first : is_late w q r ≡ false → get_or (kept_marks q.places) x false ≡ false → First w s q r x cnt =
      λ early is_first. record {
        counted = rw a.its_ts at a;
        is_first = is_first;
        in_time_lem = ltb-false w (r - q.ts) early;
      } in
      rw a.its_ts
      (each_ack w s q r x cnt status (Way w s q r (Ack x q.ts cnt status)) (record {
        late = λ late. expiring _ (ltb-true _ _ late);
        second = λ _ _. staying _ kept;
        closing = λ early is_first quorum. closing x cnt status (first early is_first) quorum;
        waiting = λ early is_first _. counting x cnt status (first early is_first);
      }))

  pub way : (event : StandbyEvent) → Way w s q r event (step_within w s q r event)
  unfolding step_within
  way event = either_way (refusals_of s q r event) q _ (Way w s q r event) (λ _. refusing event _) (done event)

  -- only a begin sends, and it sends its reading
  pub standby_sends : (event : StandbyEvent) (m : Message) → sent (step_within w s q r event).answer ≡ message m → m ≡ Check r
  unfolding sent
  standby_sends event m = by (way event)
    where
      by : {event : StandbyEvent} {out : Outcome Standby} → Way w s q r event out → sent out.answer ≡ message m → m ≡ Check r
      by (refusing _ k) e = nothing_is_no_message e
      by beginning e = sym (same_message e)
      by (expiring _ late) e = nothing_is_no_message e
      by (staying _ kept) e = nothing_is_no_message e
      by (closing x cnt status _ _) e =
          let silent =
          by_verdict (λ a. sent a ≡ nothing) (keeping x cnt status q.places) (λ _. refl) (λ _ _. refl) (λ _ _. refl) in
          nothing_is_no_message (sym silent ∙ e)
      by (counting x cnt status _) e = nothing_is_no_message e
