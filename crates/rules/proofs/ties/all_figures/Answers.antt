-- `all_figures` meets its contract: each figure of the code is the definitions' own.
use mathlib.Core.Path.{refl}
use Rattle.rules.specs.Figures.{figures}
use Rattle.rules.proofs.ties.all_figures.Goals as goal

pub returns : goal.returns
unfolding figures
returns c = refl
