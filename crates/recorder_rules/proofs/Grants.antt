-- The places of grants: who has granted a number, and that no step lowers a place. Assumes nothing.
use Prim.Native.Nat.{ℕ, ◌≤◌}
use native.Mathlib.Nat.{le_refl}
use native.Mathlib.Omega.{arith}
use mathlib.Core.Path.{◌≡◌, sym, ap, ◌∙◌}
use mathlib.Core.Logic.{◌⊎◌, inl, inr}
use mathlib.Core.Bool.{Bool, false}
use lib.ListN.{get_or, set, get_or-map}
use borrow.Author.Tests.{ltb-true, ltb-false, lt-leb}
use Rattle.words.specs.Tests.{◌<?◌, ◌≤?◌}
use Rattle.words.proofs.Booleans.{whether}
use Rattle.words.proofs.Walks.{after_store}
use Rattle.messages.specs.Outcomes.{Outcome}
use Rattle.recorder_rules.specs.declared.Recorder.{Recorder}
use Rattle.recorder_rules.specs.Recorder.{granted, higher, advanced, due, tick_event, grant_event, drive_event, event_of}
use Rattle.recorder_rules.specs.declared.RecorderEvent.{RecorderEvent as Event}
use Rattle.recorder_rules.specs.declared.RecorderEvent.TheVariants.{Tick as tick, Grant as grant, Drive as drive}
use Rattle.recorder_rules.specs.Claims.{GrantsNeverFall}
use Rattle.recorder_rules.proofs.Ways.{each_way}

-- whether observer x has granted a number is seen in its place
pub granted_at : (rec : Recorder) (number x : ℕ) → 1 ≤ number
    → get_or (granted rec number) x false ≡ (number ≤? get_or rec.grants x 0)
granted_at rec number x h =
    ap (λ (past : Bool). get_or (granted rec number) x past) (sym (lt-leb number 0 h))
    ∙ get_or-map (λ grant. number ≤? grant) rec.grants x 0

-- the greater number is none but one of the two, and below neither
pub higher_least : (j k : ℕ) → (j ≤ higher j k) × (k ≤ higher j k)
higher_least j k =
    whether (λ (v : ℕ). (j ≤ v) × (k ≤ v)) (j <? k) (λ less. (omega (arith, ltb-true, less), le_refl k))
    (λ less. (le_refl j, ltb-false j k less))

pub higher_below : (j k : ℕ) {top : ℕ} → j ≤ top → k ≤ top → higher j k ≤ top
higher_below j k {top} p q = whether (λ (v : ℕ). v ≤ top) (j <? k) (λ _. q) (λ _. p)

pub grants_never_fall_lem : GrantsNeverFall
unfolding advanced tick_event grant_event drive_event
grants_never_fall_lem s rec r event x =
    each_way s rec r event (λ outcome. get_or rec.grants x 0 ≤ get_or outcome.rec.grants x 0)
    (record {
      refused = λ _. le_refl _;
      stopped = λ _ _. le_refl _;
      stopping = λ _ _ _. le_refl _;
      going_on = λ _ _ _. by event;
    })
  where
    stored : (y v : ℕ) → get_or rec.grants y 0 ≤ v
        → (get_or (set rec.grants y v) x 0 ≡ get_or rec.grants x 0) ⊎ ((x ≡ y) × (get_or (set rec.grants y v) x 0 ≡ v))
        → get_or rec.grants x 0 ≤ get_or (set rec.grants y v) x 0
    stored y v h (inl e) = rw e (le_refl _)
    stored y v h (inr w) = rw (w.1, w.0) h

    by : (event : Event) → get_or rec.grants x 0 ≤ get_or (event_of s r event (advanced s rec r)).rec.grants x 0
    by tick =
        whether (λ (outcome : Outcome Recorder). get_or rec.grants x 0 ≤ get_or outcome.rec.grants x 0) (due s rec r)
        (λ _. le_refl _) (λ _. le_refl _)
    by (grant y j) = stored y _ (higher_least (get_or rec.grants y 0) j).0 (after_store 0 rec.grants y _ x)
    by drive = le_refl _
