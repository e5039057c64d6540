-- `owed` meets its contract: a merge that adds no row, or the kind.
use mathlib.Core.Path.{◌≡◌}
use mathlib.Core.Bool.{false, ◌&&◌}
use lib.Dec.{eqb}
use borrow.Author.Tests.{ne_eqb}
use Rattle.kinds.specs.Numbers.{number}
use Rattle.kinds.proofs.Numbers.{not-merge}
use Rattle.rewrites.proofs.inner.owed.Goals as goal
use Rattle.rewrites.proofs.inner.owed.Goals.{in_default-via-in-Merge+else-added-eq0, in_default-via-in_default}

pub returns-in-Merge : goal.returns-in-Merge
returns-in-Merge c = rw (c.in-Merge.is, c.if-added-eq0.true)

pub returns-in_default : goal.returns-in_default
returns-in_default c =
    let some : (eqb (number c.args.kind) 1 && eqb c.args.added 0) ≡ false =
    elim c.in_default.branch [
      | in_default-via-in-Merge+else-added-eq0 w ↦ rw (w.in-Merge.is, ne_eqb c.args.added 0 w.if-added-eq0.false)
      | in_default-via-in_default w ↦ rw (not-merge c.args.kind w.in_default.not-Merge)
    ] in
    rw some c.concedes.ensures
