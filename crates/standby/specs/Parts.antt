-- What the private parts of a step are to give. The step's own contract cites none of this.
use Rattle.std.specs.Prelude.{ℕ, ◌<◌, List, map}
use Rattle.std.specs.List.{fold, filter}
use Rattle.std.specs.Ordering.{ord_max, nat_cmp}
use Rattle.settings.specs.Settings.{most_observers}
use Rattle.standby_rules.specs.declared.Place.{Place}
use Rattle.standby_rules.specs.declared.StandbyEvent.{StandbyEvent}
use Rattle.standby_rules.specs.declared.StandbyEvent.TheVariants.{Begin, Ack, Poll}

-- an ack that is not refused has its place
abbrev pub Ready : StandbyEvent → Type 0
Ready Begin = Unit {0}
Ready (Ack x ts cnt status) = x < most_observers
Ready Poll = Unit {0}

-- the greatest counter kept, as a chain finds it
abbrev pub greatest_by_chain : List Place → ℕ
greatest_by_chain places = fold (ord_max nat_cmp) 0 (map (λ place. place.counter) (filter (λ place. place.kept) places))
