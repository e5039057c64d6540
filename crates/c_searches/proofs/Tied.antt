-- The contract of `olikumpasho_bound` is tied to `bounded`: weakened, it would not be.
use Prim.Native.Nat.{ℕ}
use mathlib.Core.Path.{refl, ap}
use mathlib.Core.List.{List}
use base.Logic.{SProp}
use contract.Monad.{Fun}
use types.Logic.{Logic}
use seplogic.Ra.Ura.{Ura}
use prog.Memory.{Memory}
use prog.Routine.{Routine}
use Rattle.ties.specs.Ties.{Tied}
use Rattle.ties.proofs.Ties.{two_facts, tied}
use Rattle.rules.specs.Choice.{choice_of, bounded}
use Rattle.telling.specs.Told.{told, by_bounded, bound_out}
use Rattle.c_searches.specs.contracts.olikumpasho_bound as bound
use Rattle.c_searches.proofs.olikumpasho_bound.Statement as bound_proved
use Rattle.c_searches.proofs.olikumpasho_bound.Met.{met}

module _ {M : Type 1} {𝓤 : Ura M} (𝓛 : Logic 𝓤) (memory : Memory → SProp 𝓤) (run : Routine → Fun 𝓤) where
  pub bound-tied :
      Tied 𝓛 bound.ended (bound_proved.statement M) (bound.spec 𝓛 memory run) (bound.clauses 𝓛 memory run)
      (λ κs a. told (by_bounded (bounded a.0.now (choice_of a.1.0))))
      (λ κs a. (tt, (tt, (bound_out (bounded a.0.now (choice_of a.1.0)) a.1.1.0.now, tt))))
  bound-tied = tied 𝓤 𝓛 met (λ κs a. (tt, refl)) refl (λ κs a g x ws. two_facts 𝓤 _ _ _ (λ p q. (p, ap (λ (l : List ℕ). (tt, (tt, (l, tt)))) q)))
