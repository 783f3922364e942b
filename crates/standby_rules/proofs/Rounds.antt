-- Where *dead* comes from: an ack of the open round, within the window, that makes up a query quorum. And what is kept stays
-- while the round goes on.
use Prim.Native.Nat.{ℕ, ◌-◌, ◌≤◌}
use mathlib.Core.Path.{◌≡◌, refl, sym, ◌∙◌}
use mathlib.Core.Bool.{true, false, not}
use lib.ListN.{get_or, get_or-map}
use lib.Seq.{get_or-set_other}
use borrow.Author.Tests.{not-true}
use Rattle.words.specs.Tests.{◌=?◌}
use Rattle.words.specs.Said.{Said}
use Rattle.words.proofs.Booleans.{not_both}
use Rattle.words.proofs.Conditions.{every_anywhere}
use Rattle.settings.specs.declared.Settings.{Settings}
use Rattle.quorums.specs.Quorums.{closes}
use Rattle.messages.specs.declared.Status.{Status}
use Rattle.messages.specs.declared.Message.TheVariants.{Check}
use Rattle.messages.specs.Answers.{Spoken, says, sends, says_of, refuses}
use Rattle.messages.specs.Outcomes.{Outcome}
use Rattle.messages.proofs.Apart.{initial, says_other}
use Rattle.standby_rules.specs.declared.Place.{Place}
use Rattle.standby_rules.specs.declared.Standby.{Standby}
use Rattle.standby_rules.specs.Standby.{has_open_round, unused, no_places, kept_marks, keeping, verdict}
use Rattle.standby_rules.specs.declared.StandbyEvent.{StandbyEvent as Event}
use Rattle.standby_rules.specs.declared.StandbyEvent.TheVariants.{Begin as begin, Ack as ack}
use Rattle.standby_rules.specs.Claims.{Kept, DeadInWindow, KeptStays}
use Rattle.standby_rules.proofs.Ways.{Way, way}
use Rattle.standby_rules.proofs.Ways.Way.{refusing, beginning, expiring, staying, closing, counting}

module _ (w : ℕ) (s : Settings) (q : Standby) (r m : ℕ) where
  -- the event was the ack with which the round closed, and the verdict on it
  abbrev LastAck : Event → Type 0
  LastAck event =
      (x : ℕ) × (cnt : ℕ) × (status : Status)
      × (event ≡ ack x q.ts cnt status)
      × (r - q.ts ≤ w)
      × (closes s (kept_marks (keeping x cnt status q.places)) ≡ true)
      × (verdict (keeping x cnt status q.places) ≡ says_of "dead" m)

  -- no other answer says dead
  other : {A : Type 0} (answer : Said Spoken) → (initial answer =? initial (says_of "dead" m)) ≡ false
      → answer ≡ says_of "dead" m → A
  other answer differ = says_other answer (says_of "dead" m) differ

  last_ack_lem : {event : Event} {out : Outcome Standby} → Way w s q r event out → out.answer ≡ says_of "dead" m → LastAck event
  last_ack_lem (refusing _ k) = other (refuses k) refl
  last_ack_lem beginning = other (sends (Check r)) refl
  last_ack_lem (expiring _ _) = other (says "late") refl
  last_ack_lem (staying _ _) = other (says "waiting") refl
  last_ack_lem (closing x cnt status first quorum) = λ e. (x, cnt, status, refl, first.in_time_lem, quorum, e)
  last_ack_lem (counting _ _ _ _) = other (says "waiting") refl

pub dead_in_window_lem : DeadInWindow
dead_in_window_lem w s q r event m = last_ack_lem w s q r m (way w s q r event)

-- nothing is kept in empty places
pub none_kept : (x : ℕ) → Kept no_places x → ⊥
none_kept x e =
    not_both e (not-true _ (every_anywhere (λ (place : Place). not place.kept) unused refl no_places refl x))

module _ (w : ℕ) (s : Settings) (q : Standby) (r x : ℕ) (kept : Kept q.places x) where
  -- an observer whose ack is kept is not the one whose first ack comes
  another : (y : ℕ) → get_or (kept_marks q.places) y false ≡ false → x ≡ y → ⊥
  another y e same =
      not_both (rw same at kept) (sym (get_or-map (λ (place : Place). place.kept) q.places y unused) ∙ e)

  stays : {event : Event} {out : Outcome Standby} → Way w s q r event out → (event ≡ begin → ⊥) → has_open_round out.rec ≡ true
      → get_or out.rec.places x unused ≡ get_or q.places x unused
  stays (refusing _ k) none is_open = refl
  stays beginning none is_open = absurd (none refl)
  stays (expiring _ _) none is_open = absurd (not_both is_open refl)
  stays (staying _ _) none is_open = refl
  stays (closing _ _ _ _ _) none is_open = absurd (not_both is_open refl)
  stays (counting y _ _ first) none is_open = get_or-set_other q.places y x _ unused (another y first.is_first)

pub kept_stays_lem : KeptStays
kept_stays_lem w s q r event x kept = stays w s q r x kept (way w s q r event)

-- a round that is open after a step, which began none, was open before it, with the same ts
pub same_ts : (w : ℕ) (s : Settings) (q : Standby) (r : ℕ) {event : Event} {out : Outcome Standby} → Way w s q r event out
    → (event ≡ begin → ⊥) → has_open_round out.rec ≡ true → (has_open_round q ≡ true) × (out.rec.ts ≡ q.ts)
same_ts w s q r (refusing _ k) none is_open = (is_open, refl)
same_ts w s q r beginning none is_open = absurd (none refl)
same_ts w s q r (expiring _ _) none is_open = absurd (not_both is_open refl)
same_ts w s q r (staying _ was_open) none is_open = (was_open, refl)
same_ts w s q r (closing _ _ _ _ _) none is_open = absurd (not_both is_open refl)
same_ts w s q r (counting _ _ _ _) none is_open = (is_open, refl)
