-- Determinacy of a contract: any two outcomes that it allows at the same arguments are equal.
-- An outcome is the result, and the last value of each thing that was lent to be changed. What is lent only to be read
-- ends as it was passed. Nothing is assumed of the arguments: the public functions require nothing.
-- The contract is the one that its function is proved by: the clauses that stand in the function's statement.
use Rattle.std.specs.Prelude.{◌≡◌}
use seplogic.Ra.Ura.{Ura}
use base.Logic.{SProp, emp}
use types.Logic.{Logic}
use prog.Memory.{Memory}
use prog.Routine.{Routine}
use contract.Monad.{Fun, fact}
use contract.Lifetimes.{Lfts}
use denote.Triple.Entry.{Args, Res}
use denote.Triple.Clauses.{Ended, Clauses, ClausesAt, Lasts, AtExit, at_exit}

-- T is the function's signature, with what its contract sees of each parameter at exit.
module _ (T : Ended) where
  abbrev pub Lifetimes : Type 0
  Lifetimes = Lfts T.signature.lifetimes

  abbrev pub Arguments : Lifetimes → Type 0
  Arguments = Args T.signature

  abbrev pub Returned : Lifetimes → Type 0
  Returned = Res T.signature

  -- the last values of what was lent
  abbrev pub Lent : (κs : Lifetimes) → Arguments κs → Type 0
  Lent = Lasts T

  -- the parameters at exit: what was lent at its last value, the others as they were passed
  abbrev pub ends : (κs : Lifetimes) (args : Arguments κs) → Lent κs args → AtExit T κs
  ends = at_exit T

  -- `Post κs args x s`: at the arguments `args` the result x is allowed with the parameters s at exit
  abbrev pub Allowed : Type 1
  Allowed = (κs : Lifetimes) → Arguments κs → Returned κs → AtExit T κs → Type 0

  -- the clauses of a contract: assertions, in any model of the logic
  abbrev pub Contract : Type 2
  Contract = (M : Type 1) (𝓤 : Ura M) → Logic 𝓤 → (Memory → SProp 𝓤) → (Routine → Fun 𝓤) → Clauses 𝓤 T

  -- the clauses that require nothing, and ensure just this fact of the result and of the parameters at exit
  abbrev pub just : {M : Type 1} (𝓤 : Ura M) {κs : Lifetimes} → (Returned κs → AtExit T κs → Type 0) → ClausesAt 𝓤 T κs
  just 𝓤 Fact = record { ghost = Unit {0}; requires = λ _. emp 𝓤; ensures = λ _ x s. fact 𝓤 (Fact x s) }

  -- the contract requires nothing, and ensures just that the outcome is allowed
  abbrev pub Says : Contract → Allowed → Type 2
  Says contract Post = contract ≡ (λ M 𝓤 𝓛 memory run κs args. just 𝓤 (Post κs args))

  -- two outcomes at the same arguments; `Same` is for a result that is not compared whole
  abbrev pub SettledBy :
      ((κs : Lifetimes) → Returned κs → Returned κs → Type 0) → (contract : Contract) {Post : Allowed} → Says contract Post
      → Type 0
  SettledBy Same contract {Post} says =
      (κs : Lifetimes) (args : Arguments κs) (x x' : Returned κs) (lent lent' : Lent κs args)
      → Post κs args x (ends κs args lent)
      → Post κs args x' (ends κs args lent')
      → Same κs x x' × (lent ≡ lent')

  abbrev pub Settled : (contract : Contract) {Post : Allowed} → Says contract Post → Type 0
  Settled = SettledBy (λ κs x x'. x ≡ x')
