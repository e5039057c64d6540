-- `follow` meets its contract: after i turns it stands at the literal that row i fixes.
use mathlib.Core.Path.{◌≡◌}
use Rattle.rules.specs.Rewrite.{links}
use Rattle.rules.specs.Steps.{remnant_of}
use Rattle.rules.specs.Rewrite as R
use Rattle.remnants.proofs.inner.Naming.follow.Given as goal

abbrev pub invariant-loop-i : goal.invariant-loop-i
invariant-loop-i l = (l.lit ≡ R.lit (remnant_of l.self.desk.now l.self.named.now) l.i) × (l.fits ≡ links (remnant_of l.self.desk.now l.self.named.now) l.i)
