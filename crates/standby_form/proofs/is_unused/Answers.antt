-- `standby_form::is_unused` meets its contract: the equality of places, field by field.
use Prim.Native.Nat.{ℕ}
use mathlib.Core.Path.{◌≡◌, refl, ◌∙◌}
use mathlib.Core.Bool.{Bool, true, false, beq, ◌&&◌}
use denote.Enum.Bare.{sameb}
use Rattle.words.specs.Tests.{◌=?◌}
use Rattle.messages.specs.contracts.Status.{the_type}
use Rattle.messages.specs.declared.Status.{Status}
use Rattle.messages.specs.declared.Status.TheVariants.{Alive, Dead}
use Rattle.standby_rules.specs.Standby.{is_dead, is_unused}
use Rattle.standby_form.proofs.is_unused.Goals as goal

equal : (kept : Bool) (counter : ℕ) (status : Status)
    → (beq kept false && ((counter =? 0) && sameb the_type status Alive))
    ≡ is_unused (record { kept = kept; counter = counter; status = status })
unfolding is_unused is_dead
equal true counter status = refl
equal false counter Alive = refl
equal false counter Dead = refl

pub returns : goal.returns
returns c = let place = c.args.place in c.eq.ensures ∙ equal place.kept place.counter place.status
