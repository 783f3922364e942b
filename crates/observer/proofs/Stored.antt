-- What the first k of the two stores leave of a record: for k = 0 and k = 1, and for every other k.
use Prim.Native.Nat.{ℕ}
use native.Mathlib.Omega.{arith}
use mathlib.Core.Path.{◌≡◌}
use lib.ListN.{take}
use lib.Seq.{take_all}
use Rattle.observer_rules.specs.declared.Observer.{Observer}
use Rattle.observer_rules.specs.Observer.{Store, store, store_all}
use Rattle.observer.specs.Parts.{in_order}

module _ (o : Observer) (k d l : ℕ) where
  pub none_done : k ≡ 0 → store_all (take k (in_order d l)) o ≡ o
  unfolding store_all
  none_done e = rw e

  pub one_done : k ≡ 1 → store_all (take k (in_order d l)) o ≡ store (Store.deadline d) o
  unfolding store_all
  one_done e = rw e

  pub both_done : (k ≡ 0 → ⊥) → (k ≡ 1 → ⊥)
      → store_all (take k (in_order d l)) o ≡ store (Store.latest l) (store (Store.deadline d) o)
  unfolding store_all
  both_done some more = rw (take_all k (in_order d l) (omega arith))
