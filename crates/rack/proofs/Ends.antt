-- Only the standby's answers end a round.
use Prim.Native.Nat.{ℕ, ◌+◌, ◌*◌}
use mathlib.Core.Path.{◌≡◌, refl}
use mathlib.Core.Bool.{Bool, false, ◌||◌}
use mathlib.Core.List.{List, [], ◌∷◌}
use mathlib.Core.Logic.{inl, inr, ⊎_elim}
use lib.ListN.{get_or}
use Rattle.words.specs.Tests.{◌=?◌}
use Rattle.words.specs.Said.{Said}
use Rattle.words.specs.Said.Said.{refusal, gives}
use Rattle.words.proofs.Booleans.{not_both}
use Rattle.settings.specs.declared.Settings.{Settings}
use Rattle.messages.specs.Messages.Field.{word, number}
use Rattle.messages.specs.Answers.{Spoken, giving, refuses}
use Rattle.recorder_rules.proofs.Answers.{RecorderSays, recorder_says}
use Rattle.recorder_rules.proofs.Answers.RecorderSays.{refused, stopped, running, unregistered, requests}
use Rattle.observer_rules.proofs.Answers.{ObserverSays, observer_says}
use Rattle.observer_rules.proofs.Answers.ObserverSays.{refused as refusedHere, grants, silent, cut, acks}
use Rattle.standby_rules.specs.declared.StandbyEvent.{StandbyEvent}
use Rattle.rack.specs.Runs.{ours_within, Event, perform, state_after, answer_to}
use Rattle.rack.specs.Runs.Event.{at_recorder, at_observer, at_standby, crash, restart}
use Rattle.rack.specs.Claims.{Ended}

-- first and third letter of an answer's word: they tell the words that end a round from all others
abbrev letters : Said Spoken → ℕ
letters (refusal k values) = 0
letters (gives (giving sending [])) = 0
letters (gives (giving sending (number k ∷ fields))) = 0
letters (gives (giving sending (word w ∷ fields))) = get_or w 0 0 * 1000 + get_or w 2 0

-- unknown, dead, alive
abbrev pub ends : Said Spoken → Bool
ends answer = (letters answer =? 117107) || (letters answer =? 100097) || (letters answer =? 97105)

pub not_ended : {A : Type 0} (answer : Said Spoken) → ends answer ≡ false → Ended answer → A
not_ended answer other (inl e) = absurd (not_both refl (rw e at other))
not_ended answer other (inr m) =
    ⊎_elim (λ e. absurd (not_both refl (rw e at other))) (λ e. absurd (not_both refl (rw e at other))) m.1

recorder_ends_none : {A : Type 0} {answer : Said Spoken} → RecorderSays answer → Ended answer → A
recorder_ends_none (refused k) = not_ended (refuses k) refl
recorder_ends_none stopped = not_ended _ refl
recorder_ends_none running = not_ended _ refl
recorder_ends_none unregistered = not_ended _ refl
recorder_ends_none (requests c) = not_ended _ refl

observer_ends_none : {A : Type 0} {answer : Said Spoken} → ObserverSays answer → Ended answer → A
observer_ends_none (refusedHere k) = not_ended (refuses k) refl
observer_ends_none (grants c) = not_ended _ refl
observer_ends_none silent = not_ended _ refl
observer_ends_none cut = not_ended _ refl
observer_ends_none (acks ts cnt status) = not_ended _ refl

-- what holds of the standby's events holds of an event that ends a round
pub only_standby : (w : Settings → ℕ) (s : Settings) (past : List Event) (Q : Event → Type 0)
    → ((g r : ℕ) (e : StandbyEvent) → Q (at_standby g r e)) → (e : Event) → Ended (answer_to (ours_within w) s past e) → Q e
unfolding answer_to perform
only_standby w s past Q standbys (at_recorder g r e) =
    recorder_ends_none (recorder_says s (state_after (ours_within w) s past).recorder r e)
only_standby w s past Q standbys (at_observer x g r e) =
    observer_ends_none (observer_says s ((state_after (ours_within w) s past).observers x) x r e)
only_standby w s past Q standbys (at_standby g r e) = λ _. standbys g r e
only_standby w s past Q standbys (crash x g) = not_ended (refuses 0) refl
only_standby w s past Q standbys (restart g) = not_ended (refuses 0) refl
