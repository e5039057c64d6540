-- `lay_back` meets its contract: after i turns the first i rows are laid, and it stands at the literal that row i fixes.
use mathlib.Core.Path.{◌≡◌}
use lib.ListN.{length}
use Rattle.rules.specs.Rewrite.{compensating, laid}
use Rattle.rules.specs.Steps.{remnant_of}
use Rattle.rules.specs.Rewrite as R
use Rattle.laying.proofs.inner.lay_back.Given as goal

abbrev pub invariant-loop-i : goal.invariant-loop-i
invariant-loop-i l =
    (l.lit ≡ R.lit (remnant_of l.initial.desk l.named) l.i)
    × (l.desk ≡ laid l.initial.desk l.first l.w (compensating (remnant_of l.initial.desk l.named) l.i)) × (length l.desk ≡ length l.initial.desk)
