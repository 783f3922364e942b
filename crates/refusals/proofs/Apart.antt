-- Refusals are told apart by their numbers: the refusal can be found again from its number.
use Rattle.std.proofs.Common.{ℕ, ◌-◌, [], ◌∷◌, get_or, ◌≡◌, ◌<◌, arith, refl, sym, ap, ◌∙◌}
use Rattle.refusals.specs.declared.Refusal.{Refusal}
use Rattle.refusals.specs.declared.Refusal.TheVariants.{OutOfRange, NegativeSlack, NoForm, BadReading, NoSuchObserver, BadCounter, NoRound, OtherRound, BadLine, WrongRoom}
use Rattle.refusals.specs.Refusals.{number_of, ToldApart}

-- the refusal of a number
unfoldable pub refusal_at : ℕ → Refusal
refusal_at k =
    get_or (OutOfRange ∷ NegativeSlack ∷ NoForm ∷ BadReading ∷ NoSuchObserver ∷ BadCounter ∷ NoRound ∷ OtherRound ∷ BadLine ∷ []) (k - 1) WrongRoom

pub refusal_found : (r : Refusal) → refusal_at (number_of r) ≡ r
unfolding refusal_at
refusal_found OutOfRange = refl
refusal_found NegativeSlack = refl
refusal_found NoForm = refl
refusal_found BadReading = refl
refusal_found NoSuchObserver = refl
refusal_found BadCounter = refl
refusal_found NoRound = refl
refusal_found OtherRound = refl
refusal_found BadLine = refl
refusal_found WrongRoom = refl

pub told_apart_lem : ToldApart
told_apart_lem r r' e = sym (refusal_found r) ∙ ap refusal_at e ∙ refusal_found r'

-- no refusal has the number 0, which says that nothing is refused
pub some_number : (r : Refusal) → number_of r ≡ 0 → ⊥
some_number r e = omega (arith, e, positive r)
  where
    positive : (r : Refusal) → 0 < number_of r
    positive OutOfRange = omega arith
    positive NegativeSlack = omega arith
    positive NoForm = omega arith
    positive BadReading = omega arith
    positive NoSuchObserver = omega arith
    positive BadCounter = omega arith
    positive NoRound = omega arith
    positive OtherRound = omega arith
    positive BadLine = omega arith
    positive WrongRoom = omega arith
