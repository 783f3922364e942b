-- What the private parts of a step are to give. No public contract cites it.
use Rattle.std.specs.Prelude.{ℕ, List, [], ◌∷◌}
use Rattle.observer_rules.specs.Observer.{Store}

-- the two stores in their order (rule 4.4): the new deadline d, then the new latest c
abbrev pub in_order : (d c : ℕ) → List Store
in_order d c = Store.deadline d ∷ Store.latest c ∷ []
