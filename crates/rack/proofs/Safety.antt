-- Claim 1: once the standby is told dead, every later event of the recorder is answered stopped.
-- The core: a request that is doomed is sent by a recorder that does not go on.
use Prim.Native.Nat.{ℕ, ◌+◌, ◌-◌, ◌≤◌, ◌<◌}
use native.Mathlib.Omega.{arith}
use native.Mathlib.Nat.{le_trans, le_refl}
use mathlib.Core.Path.{◌≡◌, refl, sym, ◌∙◌}
use mathlib.Core.Bool.{Bool, true, false}
use mathlib.Core.List.{List, [], ◌∷◌, ◌++◌}
use mathlib.Core.Logic.{⊎_elim}
use borrow.Author.Tests.{ltb-true, ltb-false}
use Rattle.words.specs.Tests.{◌<?◌}
use Rattle.words.proofs.Booleans.{not_both}
use Rattle.settings.specs.declared.Settings.{Settings}
use Rattle.settings.specs.Settings.{P, window, refusal_of}
use Rattle.settings.proofs.Laws.{accepted}
use Rattle.quorums.proofs.Quorums.{quorums_meet_lem}
use Rattle.messages.specs.Answers.{says, says_of}
use Rattle.messages.proofs.Apart.{says_other}
use Rattle.recorder_rules.specs.Recorder.{last_reading_of, oldest}
use Rattle.recorder_rules.specs.declared.RecorderEvent.{RecorderEvent}
use Rattle.recorder_rules.specs.declared.RecorderEvent.TheVariants.{Drive as drive}
use Rattle.recorder_rules.specs.Claims.{Sized}
use Rattle.recorder_rules.proofs.Steps.{Going, stopped_or_going, IsOpen, running_after, reading_after_lem, sent_young}
use Rattle.standby_rules.specs.Standby.{no_places}
use Rattle.rack.specs.Clocks.{Clocks}
use Rattle.rack.specs.Runs.{ours_within, Event, State, time, on_clock, perform, state_after, answer_to, is_run}
use Rattle.rack.specs.Runs.Event.{at_recorder}
use Rattle.rack.specs.Claims.{Safe, DeadMeansDead}
use Rattle.rack.proofs.Clocks.{Reads, is_reading, lower}
use Rattle.rack.proofs.Invariant.{Marks, Inv}
use Rattle.rack.proofs.Along.{now_of, top_of, adds, part_of, nothing, Holds, stays, tells, from_start}
use Rattle.rack.proofs.NeverRefused.{passes}

-- A recorder whose request is doomed has stopped by the time it makes a step: had it gone on, the lease of that request would
-- have ended with grants of a survival quorum, stored before the lease was long over; but a query quorum had stored nothing
-- higher when it was.
pub doomed_stops : (s : Settings) → refusal_of s ≡ 0
    → (clocks : Clocks) (L : ℕ) (p : Bool) (marks : Marks) (now : ℕ) (top : ℕ → ℕ) (st : State)
    → Inv s clocks L p marks now top st → marks.told ≡ true → Reads s clocks.recorder now (last_reading_of st.recorder)
    → st.recorder.stopped ≡ 0 → ⊥
doomed_stops s ok clocks L p marks now top st inv told read running =
    let rec = st.recorder in
    let part = inv.recorder_part in
    let c = (inv.doom told).0 in
    let d = (inv.doom told).1 in
    let sent = part.sent c d.sent d.known in
    let gain = lower sent.0 read (le_trans sent.1 part.h_past) in
    by (c <? oldest rec) refl (omega (arith, d.over, (accepted s ok).b))
  where
    by : (b : Bool) → ((inv.doom told).0 <? oldest st.recorder) ≡ b
        → inv.gh.σ (inv.doom told).0 + P s ≤ last_reading_of st.recorder → ⊥
    by true e old =
        let c = (inv.doom told).0 in
        let d = (inv.doom told).1 in
        let f = inv.recorder_part.ended running c d.sent (ltb-true c (oldest st.recorder) e) in
        let y = quorums_meet_lem s ok f.0 d.set f.1 d.query in
        let stored = f.2 y.0 y.2 in
        let low = d.low y.0 y.3 (c + 1) stored.0 stored.2 stored.1 in
        omega arith
    by false e old =
        let c = (inv.doom told).0 in
        let d = (inv.doom told).1 in
        let part = inv.recorder_part in
        let is_open : IsOpen st.recorder c = (ltb-false c (oldest st.recorder) e, d.known) in
        let young = sent_young s st.recorder part.good.form part.good.size running c is_open in
        let less : last_reading_of st.recorder - inv.gh.σ c < P s = rw (part.opened c is_open) at young in
        omega arith

abbrev dead_told : Marks
dead_told = record { told = true; reg = false; ts = 0; places = no_places }

module _ (s : Settings) (ok : refusal_of s ≡ 0) (w : Settings → ℕ) (window_fits : w s ≤ window s) (clocks : Clocks) where
  abbrev Held : Marks → List Event → Type 0
  Held marks events = Holds s ok w window_fits clocks 0 false marks events

  kept : (later past : List Event) → is_run (ours_within w) s clocks (later ++ past) ≡ true → Held dead_told past
      → Held dead_told (later ++ past)
  kept later past run = stays s ok w window_fits clocks 0 false dead_told later past run (λ z. absurd (not_both z refl))

  goes : (past : List Event) (g r : ℕ) (e : RecorderEvent) → Held dead_told (at_recorder g r e ∷ past)
      → Sized (state_after (ours_within w) s past).recorder
      → on_clock s clocks (at_recorder g r e) ≡ true → Going s (state_after (ours_within w) s past).recorder r e → ⊥
  unfolding now_of time state_after perform on_clock
  goes past g r e after sized clock on =
      let rec = (state_after (ours_within w) s past).recorder in
      let read = (is_reading s clocks.recorder g r clock).0 in
      doomed_stops s ok clocks 0 false dead_told g (top_of (at_recorder g r e ∷ past))
      (state_after (ours_within w) s (at_recorder g r e ∷ past)) after refl
      (rw (reading_after_lem s rec r e sized on) read) (running_after s rec r e sized on)

  pub stops : (earlier between : List Event) (told : Event) (m g r : ℕ) (e : RecorderEvent)
      → is_run (ours_within w) s clocks (at_recorder g r e ∷ (between ++ (told ∷ earlier))) ≡ true
      → answer_to (ours_within w) s earlier told ≡ says_of "dead" m
      → answer_to (ours_within w) s (between ++ (told ∷ earlier)) (at_recorder g r e) ≡ says "stopped"
  unfolding answer_to perform
  stops earlier between told m g r e run dead =
      let past = between ++ (told ∷ earlier) in
      let rec = (state_after (ours_within w) s past).recorder in
      let a = adds (ours_within w) s clocks past (at_recorder g r e) run in
      let b =
      adds (ours_within w) s clocks earlier told (part_of (ours_within w) s clocks between (told ∷ earlier) a.before) in
      let known =
      tells s ok w window_fits clocks 0 false nothing earlier (from_start s ok w window_fits clocks earlier b.before) told
      b m dead in
      let before = kept between (told ∷ earlier) a.before known in
      let after = kept (at_recorder g r e ∷ []) past run before in
      ⊎_elim (λ stopped. stopped.0) (λ on. absurd (goes past g r e after before.recorder_part.good.size a.on_clock_lem on))
      (stopped_or_going s rec r e (passes s ok w window_fits clocks 0 false dead_told past before g r e a))

pub safe : (s : Settings) → refusal_of s ≡ 0 → (w : Settings → ℕ) → w s ≤ window s → Safe (ours_within w) s
safe s ok w fits =
    record {
      stops = λ clocks earlier between told m g r e run dead. stops s ok w fits clocks earlier between told m g r e run dead;
      never_drives = λ clocks earlier between told m g r run dead drives.
          says_other (says "running") (says "stopped") refl
          (sym drives ∙ stops s ok w fits clocks earlier between told m g r drive run dead);
    }

pub dead_means_dead_lem : DeadMeansDead
dead_means_dead_lem = record { ours_are_safe = λ s ok. safe s ok window (le_refl (window s)); up_to_W = safe }
