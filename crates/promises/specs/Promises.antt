-- What is promised, whole: the demands, which speak of definitions, and that the entry points do just what these definitions say.
use base.Logic.{SProp}
use contract.Monad.{Fun}
use types.Logic.{Logic}
use seplogic.Ra.Ura.{Ura}
use prog.Memory.{Memory}
use prog.Routine.{Routine}
use Rattle.demands.specs.Demands.{Demand1, Demand2, Demand3}
use Rattle.demands.specs.Losses.{LossesExplained}
use Rattle.demands.specs.Bounds.{BoundsCompared}
use Rattle.promises.specs.Tied.{TiedInCode}
use Rattle.promises.specs.TiedC.{TiedInC}

pub record Promises : Type 2 where
  -- demand 1, "Any input gets an answer and every call ends. No entry point reads outside what it was lent or expects a check made beforehand.": each
  -- entry point meets its contract, which asks nothing and says its answer and all that was lent, by these definitions
  pub code : {M : Type 1} {𝓤 : Ura M} (𝓛 : Logic 𝓤) (memory : Memory → SProp 𝓤) (run : Routine → Fun 𝓤) → TiedInCode 𝓛 memory run
  pub for_c : {M : Type 1} {𝓤 : Ura M} (𝓛 : Logic 𝓤) (memory : Memory → SProp 𝓤) (run : Routine → Fun 𝓤) → TiedInC 𝓛 memory run
  -- the rest of it, and the others
  pub demand1 : Demand1
  pub demand2 : Demand2
  pub demand3 : Demand3
  -- document 02, C-12: where the bound comes from; C-14: by either bound, and one beside the other
  pub losses : LossesExplained
  pub bounds : BoundsCompared
