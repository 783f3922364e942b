-- A stopped recorder stays as it is, the leases that are kept are the newest, and those that ended were renewed. Assumes
-- nothing.
use Prim.Native.Nat.{ℕ, suc, ◌+◌, ◌<◌}
use native.Mathlib.Omega.{arith}
use mathlib.Core.Path.{◌≡◌, refl}
use mathlib.Core.Logic.{◌⊎◌, inl, inr}
use mathlib.Core.Bool.{true}
use lib.ListN.{length, get_or}
use borrow.Author.Tests.{leb-true}
use Rattle.quorums.specs.Quorums.{survives}
use Rattle.settings.proofs.Laws.{accepted_in_range}
use Rattle.messages.specs.Answers.{refuses, says}
use Rattle.recorder_rules.specs.Recorder.{leases, oldest, granted, has_ended}
use Rattle.recorder_rules.specs.Claims.{StoppedStays, NewestAreKept, EndedWereRenewed}
use Rattle.recorder_rules.proofs.Formed.{formed}
use Rattle.recorder_rules.proofs.Spacing.{ended, kept_newest}
use Rattle.recorder_rules.proofs.Ways.{each_way}
use Rattle.recorder_rules.proofs.Lacking.{ended_granted}

pub stopped_stays_lem : StoppedStays
stopped_stays_lem s rec r event is_stopped =
    each_way s rec r event
    (λ outcome. (outcome.rec ≡ rec) × ((outcome.answer ≡ says "stopped") ⊎ ((k : ℕ) × (outcome.answer ≡ refuses k))))
    (record {
      refused = λ _. (refl, inr (_, refl));
      stopped = λ _ _. (refl, inl refl);
      stopping = λ _ running _. absurd (is_stopped running);
      going_on = λ _ running _. absurd (is_stopped running);
    })

pub newest_are_kept_lem : NewestAreKept
newest_are_kept_lem s rec r ok e =
    (ended s r (leases rec), kept_newest s r (accepted_in_range s ok).η_least (leases rec) (formed s rec e).apart)

pub ended_were_renewed_lem : EndedWereRenewed
ended_were_renewed_lem s rec r event =
    each_way s rec r event
    (λ outcome.
    ((refused : ℕ) → outcome.answer ≡ refuses refused → ⊥) → outcome.rec.stopped ≡ 0
    → (place : ℕ) → place < length (leases rec) → has_ended s r (get_or (leases rec) place 0) ≡ true
    → survives s (granted rec (oldest rec + place + 1)) ≡ true)
    (record {
      refused = λ _ accepted. absurd (accepted _ refl);
      stopped = λ _ is_stopped _ running. absurd (is_stopped running);
      stopping = λ _ _ _ _ running. absurd (nonzero running);
      going_on = λ _ _ goes _ _ place h over. ended_granted s rec r goes place h (leb-true _ _ over);
    })
  where
    nonzero : suc 0 ≡ 0 → ⊥
    nonzero e = omega arith
