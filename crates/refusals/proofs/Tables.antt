-- One table of refusals behind another, as code knows it that asks for the first by a call and `?`: a refusal of the first is
-- that of both, and where the first accepts the second decides.
use mathlib.Core.Path.{◌≡◌, refl, sym}
use mathlib.Core.Bool.{true}
use mathlib.Core.List.{List, ◌++◌}
use Rattle.words.specs.Tests.{◌<?◌}
use Rattle.words.specs.Lists.{every}
use Rattle.words.specs.Said.{Refusal as Line, first}
use Rattle.words.proofs.Said.{first_stays, first_goes_on}
use Rattle.refusals.specs.declared.Refusal.{Refusal}
use Rattle.refusals.specs.Refusals.{number_of}
use Rattle.refusals.proofs.Apart.{some_number}

module _ (rs later : List Line) (numbered : every (λ r. 0 <? r.no) rs ≡ true) where
  pub refused_before : (r : Refusal) → number_of r ≡ first rs → number_of r ≡ first (rs ++ later)
  refused_before r told = first_stays rs later numbered told (some_number r)

  pub accepted_before : 0 ≡ first rs → first later ≡ first (rs ++ later)
  accepted_before told = sym (first_goes_on rs later numbered told refl)
