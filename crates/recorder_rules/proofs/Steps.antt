-- What a step that is neither refused nor stops says of the leases, by their numbers: those still open are young, those no
-- longer open had their grants before the event, and each keeps the reading at which it was sent. Assumes nothing.
use Rattle.std.specs.Prelude.{if◌then◌else◌}
use Prim.Native.Nat.{ℕ, ◌+◌, ◌-◌, ◌≤◌, ◌<◌}
use native.Mathlib.Omega.{arith}
use mathlib.Core.Path.{◌≡◌, refl, sym, ap, ◌∙◌}
use mathlib.Core.Logic.{◌⊎◌, inl, inr, ⊎_elim}
use mathlib.Core.Bool.{Bool, true, false}
use mathlib.Core.List.{List, [], ◌∷◌, ◌++◌}
use lib.ListN.{length, get_or, set, length-append, get_or-append}
use lib.Seq.{get_or-drop, get_or-append_seam}
use Rattle.words.specs.Tests.{◌<?◌}
use Rattle.words.proofs.Booleans.{whether}
use Rattle.words.proofs.Walks.{after_store}
use Rattle.settings.specs.declared.Settings.{Settings}
use Rattle.settings.specs.Settings.{P}
use Rattle.quorums.specs.Quorums.{survives}
use Rattle.settings.proofs.Laws.{accepted_in_range}
use Rattle.messages.specs.declared.Message.TheVariants.{LeaseRequest}
use Rattle.messages.specs.Answers.{sends as sending, says}
use Rattle.messages.specs.Outcomes.{Outcome, ◌leaving◌}
use Rattle.recorder_rules.specs.declared.Recorder.{Recorder}
use Rattle.recorder_rules.specs.Recorder.{last_reading_of, leases, oldest, granted, kept, lacking, advanced, due, requesting, higher, standing, tick_event, grant_event, drive_event, step_of, event_of}
use Rattle.recorder_rules.specs.declared.RecorderEvent.{RecorderEvent as Event}
use Rattle.recorder_rules.specs.declared.RecorderEvent.TheVariants.{Tick as tick, Grant as grant, Drive as drive}
use Rattle.recorder_rules.specs.Claims.{Sized}
use Rattle.recorder_rules.proofs.Formed.{Formed, has_form_lem}
use Rattle.recorder_rules.proofs.Spacing.{ended, kept_length, kept_newest, ended_first}
use Rattle.recorder_rules.proofs.Room.{leases_length, room_advanced}
use Rattle.recorder_rules.proofs.Placing.{placed_back}
use Rattle.recorder_rules.proofs.Lacking.{ended_granted}
use Rattle.recorder_rules.proofs.Ways.{Passes, Allowed, allowed, each_way}
use Rattle.recorder_rules.proofs.Keeping.{Good, step_good, advanced_formed, advanced_sized, leases_requesting}

-- a step that goes on to its event
pub record Going (s : Settings) (rec : Recorder) (r : ℕ) (event : Event) : Type 0 where
  pub passes : Passes s rec r event
  pub running : rec.stopped ≡ 0
  pub not_lacking : lacking s rec r ≡ false
  pub outcome : step_of s rec r event ≡ event_of s r event (advanced s rec r)

module _ (s : Settings) (rec : Recorder) (r : ℕ) (event : Event) where
  -- an accepted one says *stopped* and leaves the recorder stopped, or goes on
  pub stopped_or_going : Passes s rec r event
      → (((step_of s rec r event).answer ≡ says "stopped") × ((step_of s rec r event).rec.stopped ≡ 0 → ⊥)) ⊎ Going s rec r event
  stopped_or_going passes =
      each_way s rec r event
      (λ outcome. step_of s rec r event ≡ outcome
      → ((outcome.answer ≡ says "stopped") × (outcome.rec.stopped ≡ 0 → ⊥)) ⊎ Going s rec r event)
      (record {
        refused = λ fails. absurd (fails passes);
        stopped = λ _ flag _. inl (refl, flag);
        stopping = λ _ _ _ _. inl (refl, λ z. omega arith);
        going_on = λ p running goes same. inr (record { passes = p; running = running; not_lacking = goes; outcome = same });
      })
      refl

-- the record after it, where no request is sent
pub record Quiet (s : Settings) (rec : Recorder) (r : ℕ) (outcome : Outcome Recorder) : Type 0 where
  pub running : outcome.rec.stopped ≡ 0
  pub reading : last_reading_of outcome.rec ≡ r
  pub counter : outcome.rec.counter ≡ rec.counter
  pub leases : leases outcome.rec ≡ kept s r (leases rec)

-- and where one is
pub record Asking (s : Settings) (rec : Recorder) (r : ℕ) (outcome : Outcome Recorder) : Type 0 where
  pub running : outcome.rec.stopped ≡ 0
  pub reading : last_reading_of outcome.rec ≡ r
  pub counter : outcome.rec.counter ≡ rec.counter + 1
  pub leases : leases outcome.rec ≡ kept s r (leases rec) ++ (r ∷ [])

module _ (s : Settings) (rec : Recorder) (r : ℕ) (ok : Allowed s rec r) (sized : Sized rec) (running : rec.stopped ≡ 0)
    (goes : lacking s rec r ≡ false) where
  leases_advanced : leases (advanced s rec r) ≡ kept s r (leases rec)
  unfolding advanced
  leases_advanced = placed_back (kept s r (leases rec))

  asking : due s (advanced s rec r) r ≡ true
      → Asking s rec r (sending (LeaseRequest ((advanced s rec r).counter + 1)) leaving requesting (advanced s rec r) r)
  unfolding advanced
  asking e =
      record {
        running = running;
        reading = refl;
        counter = refl;
        leases =
            leases_requesting s (advanced s rec r) r ok.settings (advanced_formed s rec r ok sized running goes)
            (advanced_sized s rec r ok sized running goes) refl e
            (room_advanced s rec r ok.settings (has_form_lem s rec ok.form) sized.sends e)
            ∙ ap (λ (l : List ℕ). l ++ (r ∷ [])) leases_advanced;
      }

  quiet : Quiet s rec r (standing s (advanced s rec r) leaving advanced s rec r)
  unfolding advanced
  quiet = record { running = running; reading = refl; counter = refl; leases = leases_advanced }

  pub event_leaves : (event : Event)
      → Quiet s rec r (event_of s r event (advanced s rec r))
      ⊎ ((event ≡ tick) × Asking s rec r (event_of s r event (advanced s rec r)))
  unfolding advanced tick_event grant_event drive_event
  event_leaves tick =
      whether (λ (outcome : Outcome Recorder). Quiet s rec r outcome ⊎ ((tick ≡ tick) × Asking s rec r outcome)) (due s rec r)
      (λ is_due. inr (refl, asking is_due)) (λ _. inl quiet)
  event_leaves (grant x j) = inl (record { running = running; reading = refl; counter = refl; leases = leases_advanced })
  event_leaves drive = inl quiet

-- the lease of number i is open
abbrev pub IsOpen : Recorder → (i : ℕ) → Type 0
IsOpen rec i = (oldest rec ≤ i) × (i ≤ rec.counter)

-- the reading at which it was sent
abbrev pub sent_at : Recorder → (i : ℕ) → ℕ
sent_at rec i = get_or (leases rec) (i - oldest rec) 0

-- the form, by the numbers of the leases
module _ (s : Settings) (rec : Recorder) (f : Formed s rec) (sized : Sized rec) where
  open_place : (i : ℕ) → IsOpen rec i → i - oldest rec < length (leases rec)
  open_place i is_open = let counted = leases_length s rec sized.sends f in omega (arith, f.leases_counter)

  pub sent_young : rec.stopped ≡ 0 → (i : ℕ) → IsOpen rec i → last_reading_of rec - sent_at rec i < P s
  sent_young running i is_open = f.youth running (i - oldest rec) (open_place i is_open)

module _ (s : Settings) (rec : Recorder) (r : ℕ) (event : Event) (sized : Sized rec) (on : Going s rec r event) where
  abbrev next : Outcome Recorder
  next = step_of s rec r event

  ok : Allowed s rec r
  ok = allowed s rec r event on.passes

  good : Good s next.rec
  good = step_good s rec r event (record { form = ok.form; size = sized })

  -- only a tick sends a request
  pub leaves : Quiet s rec r next ⊎ ((event ≡ tick) × Asking s rec r next)
  leaves = rw on.outcome (event_leaves s rec r ok sized on.running on.not_lacking event)

  pub running_after : next.rec.stopped ≡ 0
  running_after = ⊎_elim (λ q. q.running) (λ a. a.1.running) leaves

  pub reading_after_lem : last_reading_of next.rec ≡ r
  reading_after_lem = ⊎_elim (λ q. q.reading) (λ a. a.1.reading) leaves

  -- the ended leases are those before the oldest that is left
  pub oldest_after : oldest next.rec ≡ oldest rec + ended s r (leases rec)
  oldest_after =
      let counted = leases_length s rec sized.sends ok.form in
      let counted_after = leases_length s next.rec good.size.sends good.form in
      let fewer = kept_length s r (leases rec) in
      ⊎_elim (λ q. omega (arith, ok.form.leases_counter, q.counter, ap length q.leases))
      (λ a.
      let one_more = length-append (kept s r (leases rec)) (r ∷ []) in
      omega (arith, ok.form.leases_counter, a.1.counter, ap length a.1.leases, one_more))
      leaves

  -- a lease no longer open: t observers had granted the next number, before the event
  pub closed_granted : (i : ℕ) → oldest rec ≤ i → i < oldest next.rec → survives s (granted rec (i + 1)) ≡ true
  closed_granted i h below =
      let k = i - oldest rec in
      let number : oldest rec + k ≡ i = omega arith in
      let first_ones : k < ended s r (leases rec) = omega (arith, oldest_after) in
      let over = ended_first s r (accepted_in_range s ok.settings).η_least (leases rec) ok.form.apart k first_ones in
      rw number at (ended_granted s rec r on.not_lacking k (omega arith) over)

  -- the place of a lease that was kept
  kept_place : (j : ℕ) → j < length (kept s r (leases rec)) → get_or (leases next.rec) j 0 ≡ get_or (kept s r (leases rec)) j 0
  kept_place j h =
      ⊎_elim (λ q. ap (λ (l : List ℕ). get_or l j 0) q.leases)
      (λ a. ap (λ (l : List ℕ). get_or l j 0) a.1.leases ∙ get_or-append (kept s r (leases rec)) (r ∷ []) 0 j h)
      leaves

  -- each lease keeps the reading of its send
  pub sent_kept : (i : ℕ) → oldest next.rec ≤ i → i ≤ rec.counter → sent_at next.rec i ≡ sent_at rec i
  sent_kept i h top =
      let counted = leases_length s rec sized.sends ok.form in
      let fewer = kept_length s r (leases rec) in
      let j = i - oldest next.rec in
      let there : ended s r (leases rec) + j ≡ i - oldest rec = omega (arith, oldest_after) in
      kept_place j (omega (arith, oldest_after, ok.form.leases_counter))
      ∙ ap (λ (l : List ℕ). get_or l j 0)
      (kept_newest s r (accepted_in_range s ok.settings).η_least (leases rec) ok.form.apart)
      ∙ get_or-drop (ended s r (leases rec)) (leases rec) j 0
      ∙ ap (λ (k : ℕ). get_or (leases rec) k 0) there

  -- and a new one has this step's
  pub sent_now : Asking s rec r next → sent_at next.rec (rec.counter + 1) ≡ r
  sent_now a =
      let counted = leases_length s rec sized.sends ok.form in
      let fewer = kept_length s r (leases rec) in
      let there : rec.counter + 1 - oldest next.rec ≡ length (kept s r (leases rec)) =
      omega (arith, oldest_after, ok.form.leases_counter) in
      rw there (ap (λ (l : List ℕ). get_or l (length (kept s r (leases rec))) 0) a.leases
      ∙ get_or-append_seam (kept s r (leases rec)) r [] 0)

-- a place of a grant changes only by a grant from its observer, and then has that number
pub place_after : (s : Settings) (rec : Recorder) (r : ℕ) (event : Event) (y : ℕ)
    → (get_or (step_of s rec r event).rec.grants y 0 ≡ get_or rec.grants y 0)
    ⊎ ((j : ℕ) × (event ≡ grant y j) × (get_or (step_of s rec r event).rec.grants y 0 ≡ j))
unfolding advanced tick_event grant_event drive_event
place_after s rec r event y =
    each_way s rec r event
    (λ outcome. (get_or outcome.rec.grants y 0 ≡ get_or rec.grants y 0)
    ⊎ ((j : ℕ) × (event ≡ grant y j) × (get_or outcome.rec.grants y 0 ≡ j)))
    (record {
      refused = λ _. inl refl;
      stopped = λ _ _. inl refl;
      stopping = λ _ _ _. inl refl;
      going_on = λ _ _ _. by event;
    })
  where
    stored : (x j : ℕ) (greater : Bool) (v : ℕ) → v ≡ (if greater then j else get_or rec.grants x 0)
        → (get_or (set rec.grants x v) y 0 ≡ get_or rec.grants y 0) ⊎ ((y ≡ x) × (get_or (set rec.grants x v) y 0 ≡ v))
        → (get_or (set rec.grants x v) y 0 ≡ get_or rec.grants y 0)
        ⊎ ((k : ℕ) × (grant x j ≡ grant y k) × (get_or (set rec.grants x v) y 0 ≡ k))
    stored x j greater v is (inl e) = inl e
    stored x j true v is (inr w) = inr (j, ap (λ (z : ℕ). grant z j) (sym w.0), w.1 ∙ is)
    stored x j false v is (inr w) = inl (w.1 ∙ is ∙ ap (λ (z : ℕ). get_or rec.grants z 0) (sym w.0))

    by : (e : Event) → (get_or (event_of s r e (advanced s rec r)).rec.grants y 0 ≡ get_or rec.grants y 0)
        ⊎ ((j : ℕ) × (e ≡ grant y j) × (get_or (event_of s r e (advanced s rec r)).rec.grants y 0 ≡ j))
    by tick =
        inl (whether (λ (outcome : Outcome Recorder). get_or outcome.rec.grants y 0 ≡ get_or rec.grants y 0) (due s rec r)
        (λ _. refl) (λ _. refl))
    by (grant x j) =
        stored x j (get_or rec.grants x 0 <? j) _ refl (after_store 0 rec.grants x (higher (get_or rec.grants x 0) j) y)
    by drive = inl refl
