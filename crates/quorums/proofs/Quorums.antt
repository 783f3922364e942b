-- Sets of observers: quorums meet, none is lost as a set grows, and nobody is none.
use Rattle.std.specs.Prelude.{if◌then◌else◌, ◌%◌}
use Rattle.std.specs.List.{fold, enumerate_from}
use Rattle.std.specs.Int.{from_bool}
use Prim.Native.Nat.{ℕ, zero, suc, ◌+◌, ◌-◌, ◌<◌, ◌≤◌, ◌^◌}
use native.Mathlib.Omega.{arith}
use native.Mathlib.Nat.{le_refl, le_trans, zero-add}
use Rattle.std.proofs.Math.Nat.{mod-eq_of_lt}
use mathlib.Core.Path.{◌≡◌, refl, ◌∙◌}
use mathlib.Core.Bool.{Bool, true, false, not, ◌&&◌}
use mathlib.Core.List.{List, [], ◌∷◌}
use lib.ListN.{length, get_or, take}
use lib.Seq.{take-nil}
use borrow.Author.Tests.{leb-true, le-leb, lt-leb, not-true, ltb-true, ltb-false}
use Rattle.words.specs.Tests.{◌≤?◌, ◌<?◌}
use Rattle.words.specs.Lists.{every, count_where}
use Rattle.words.proofs.Booleans.{not_both}
use Rattle.words.proofs.Walks.{count_suc}
use Rattle.words.proofs.Conditions.{every_anywhere}
use Rattle.settings.specs.declared.Settings.{Settings}
use Rattle.settings.specs.Settings.{n, t, refusal_of}
use Rattle.quorums.specs.Parts.{with_mark, counted_in_turn}
use Rattle.quorums.specs.Quorums.{◌∋◌, members, survives, closes, QuorumsMeet, QuorumsGrow}
use Rattle.settings.proofs.Laws.{accepted_in_range}

-- a chain counts as `count_where` does, where the sum fits: one mark more, whose observer is one of the first m or not
module _ (m i k : ℕ) (xs : List Bool) (fits : k + suc (length xs) < 2 ^ 64)
    (rest : (k : ℕ) → k + length xs < 2 ^ 64
    → fold (with_mark m) k (enumerate_from (i + 1) xs) ≡ k + count_where (λ mark. mark) (take (m - (i + 1)) xs)) where
  counted_one : (among : Bool) → (i <? m) ≡ among → (mark : Bool)
      → fold (with_mark m) ((k + from_bool (among && mark)) % (2 ^ 64)) (enumerate_from (i + 1) xs)
      ≡ k + count_where (λ mark. mark) (take (m - i) (mark ∷ xs))
  unfolding count_where
  counted_one true e true =
      let sum : (k + 1) % (2 ^ 64) ≡ k + 1 = mod-eq_of_lt (omega arith) in
      let left : m - i ≡ suc (m - (i + 1)) = omega (arith, ltb-true i m e) in
      rw (sum, left) (rest (k + 1) (omega arith) ∙ omega arith)
  counted_one true e false =
      let sum : (k + 0) % (2 ^ 64) ≡ k = mod-eq_of_lt (omega arith) ∙ omega arith in
      let left : m - i ≡ suc (m - (i + 1)) = omega (arith, ltb-true i m e) in
      rw (sum, left) (rest k (omega arith))
  counted_one false e mark =
      let sum : (k + 0) % (2 ^ 64) ≡ k = mod-eq_of_lt (omega arith) ∙ omega arith in
      let none : m - i ≡ 0 = omega (arith, ltb-false i m e) in
      let no_more : m - (i + 1) ≡ 0 = omega (arith, ltb-false i m e) in
      rw (sum, none) (rw no_more at (rest k (omega arith)))

counted_from : (m i k : ℕ) (xs : List Bool) → k + length xs < 2 ^ 64
    → fold (with_mark m) k (enumerate_from i xs) ≡ k + count_where (λ mark. mark) (take (m - i) xs)
unfolding count_where
counted_from m i k [] h = rw (take-nil {A = Bool} (m - i)) (omega arith)
counted_from m i k (mark ∷ xs) h =
    counted_one m i k xs h (λ k h. counted_from m (i + 1) k xs h) (i <? m) refl mark

pub members_counted : (s : Settings) (set : List Bool) → length set ≡ 16 → counted_in_turn (n s) set ≡ members s set
unfolding members
members_counted s set h =
    let whole : n s - 0 ≡ n s = omega arith in
    (rw whole at (counted_from (n s) 0 0 set (rw h (omega arith)))) ∙ zero-add _

-- how many of the first k are in the set
abbrev marks : ℕ → List Bool → ℕ
marks k set = count_where (λ mark. mark) (take k set)

abbrev marks_suc : (set : List Bool) (k : ℕ) → marks (suc k) set ≡ (if get_or set k false then suc (marks k set) else marks k set)
marks_suc = count_suc (λ mark. mark) false refl

-- two sets that together have more than k of the first k share one of them
meet : (k : ℕ) (one other : List Bool) → k < marks k one + marks k other → (x : ℕ) × (x < k) × (one ∋ x) × (other ∋ x)
unfolding count_where
meet zero one other h = let z : ⊥ = omega arith in absurd z
meet (suc k) one other h =
    by (meet k one other) (get_or one k false) (get_or other k false) refl refl (rw (marks_suc one k, marks_suc other k) at h)
  where
    below : (x : ℕ) × (x < k) × (one ∋ x) × (other ∋ x) → (x : ℕ) × (x < suc k) × (one ∋ x) × (other ∋ x)
    below m = (m.0, omega arith, m.2, m.3)

    by : (k < marks k one + marks k other → (x : ℕ) × (x < k) × (one ∋ x) × (other ∋ x)) → (a b : Bool)
        → get_or one k false ≡ a → get_or other k false ≡ b
        → suc k < (if a then suc (marks k one) else marks k one) + (if b then suc (marks k other) else marks k other)
        → (x : ℕ) × (x < suc k) × (one ∋ x) × (other ∋ x)
    by rest true true p q h = (k, omega arith, p, q)
    by rest true false p q h = below (rest (omega arith))
    by rest false true p q h = below (rest (omega arith))
    by rest false false p q h = below (rest (omega arith))

pub quorums_meet_lem : QuorumsMeet
unfolding survives closes members
quorums_meet_lem s accepted survivors queried survive close =
    let range = accepted_in_range s accepted in
    meet (n s) survivors queried (omega (arith, leb-true))

-- a set that has what another has of the first k has as many of them
grow : (k : ℕ) (set larger : List Bool) → ((x : ℕ) → x < k → set ∋ x → larger ∋ x) → marks k set ≤ marks k larger
unfolding count_where
grow zero set larger has = le_refl _
grow (suc k) set larger has =
    rw (marks_suc set k, marks_suc larger k)
    (by (get_or set k false) (get_or larger k false) (has k (omega arith)) (grow k set larger (λ x h. has x (omega arith))))
  where
    by : (a b : Bool) → (a ≡ true → b ≡ true) → {m k : ℕ} → m ≤ k → (if a then suc m else m) ≤ (if b then suc k else k)
    by true true f h = omega arith
    by true false f h = absurd (not_both (f refl) refl)
    by false true f h = omega arith
    by false false f h = h

pub quorums_grow_lem : QuorumsGrow
unfolding survives closes members
quorums_grow_lem s set larger has =
    (still _, still _)
  where
    still : (k : ℕ) → (k ≤? marks (n s) set) ≡ true → (k ≤? marks (n s) larger) ≡ true
    still k e = le-leb k (marks (n s) larger) (le_trans (leb-true k (marks (n s) set) e) (grow (n s) set larger has))

-- a set with some of the first k has one of them
some_mark : (k : ℕ) (set : List Bool) → 1 ≤ marks k set → (x : ℕ) × (x < k) × (set ∋ x)
unfolding count_where
some_mark zero set h = let z : ⊥ = omega arith in absurd z
some_mark (suc k) set h = by (some_mark k set) (get_or set k false) refl (rw (marks_suc set k) at h)
  where
    by : (1 ≤ marks k set → (x : ℕ) × (x < k) × (set ∋ x)) → (a : Bool) → get_or set k false ≡ a
        → 1 ≤ (if a then suc (marks k set) else marks k set) → (x : ℕ) × (x < suc k) × (set ∋ x)
    by rest true e h = (k, omega arith, e)
    by rest false e h = let m = rest h in (m.0, omega arith, m.2)

-- a survival quorum is not empty
pub a_survivor : (s : Settings) → refusal_of s ≡ 0 → (set : List Bool) → survives s set ≡ true → (x : ℕ) × (x < n s) × (set ∋ x)
unfolding survives members
a_survivor s accepted set e = let range = accepted_in_range s accepted in some_mark (n s) set (omega (arith, leb-true))

-- nobody is no query quorum
pub nobody_closes : (s : Settings) (set : List Bool) → every not set ≡ true → closes s set ≡ false
unfolding closes members count_where
nobody_closes s set nobody =
    let none : (x : ℕ) → set ∋ x → ⊥ =
    λ x has. not_both has (not-true (get_or set x false) (every_anywhere not false refl set nobody x)) in
    let few = grow (n s) set [] (λ x h has. absurd (none x has)) in
    lt-leb (n s - t s + 1) (marks (n s) set) (omega (arith, rw (take-nil {A = Bool} (n s)) at few))
