-- The contract of `bound` is tied to `bounded`: weakened, it would not be.
use mathlib.Core.Path.{refl}
use base.Logic.{SProp}
use contract.Monad.{Fun}
use types.Logic.{Logic}
use seplogic.Ra.Ura.{Ura}
use prog.Memory.{Memory}
use prog.Routine.{Routine}
use Rattle.ties.specs.Ties.{Tied}
use Rattle.ties.proofs.Ties.{one-fact, tied}
use Rattle.rules.specs.Choice.{bounded}
use Rattle.bound.specs.contracts.bound as bound
use Rattle.bound.proofs.bound.Statement as bound_proved
use Rattle.bound.proofs.bound.Met.{met}

module _ {M : Type 1} {𝓤 : Ura M} (𝓛 : Logic 𝓤) (memory : Memory → SProp 𝓤) (run : Routine → Fun 𝓤) where
  pub bound-tied :
      Tied 𝓛 bound.ended (bound_proved.statement M) (bound.spec 𝓛 memory run) (bound.clauses 𝓛 memory run)
      (λ κs a. bounded a.0.now a.1.0) (λ κs a. (tt, (tt, tt)))
  bound-tied = tied 𝓤 𝓛 met (λ κs a. (tt, refl)) refl (λ κs a g x ws. one-fact 𝓤 _ _ (λ p. (p, refl)))
