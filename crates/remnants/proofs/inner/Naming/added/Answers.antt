-- `added` meets its contract: a merge is asked for its rest, the other kinds for their count.
use mathlib.Core.Path.{◌≡◌, sym, ◌∙◌}
use mathlib.Core.Bool.{false, ◌&&◌}
use native.Mathlib.Omega.{arith}
use lib.Dec.{eqb}
use Rattle.literals.specs.Lits.{is_empty}
use Rattle.rules.specs.Steps.{remnant_of}
use Rattle.kinds.specs.Numbers.{number}
use Rattle.kinds.proofs.Numbers.{not-merge}
use Rattle.remnants.specs.Rows.{rest_of, added_rows}
use Rattle.remnants.proofs.Counts.{two-named, fewer-named}
use Rattle.remnants.proofs.inner.Naming.added.Goals as goal
use Rattle.remnants.proofs.inner.Naming.added.Goals.{in_default-via-in-Merge+else-is_empty, in_default-via-in_default}

pub rest-requires : goal.rest-requires
rest-requires c = two-named _ _ c.requires

pub returns-in-Merge : goal.returns-in-Merge
unfolding added_rows
returns-in-Merge c = rw (c.in-Merge.is, ← c.rest.ensures, sym c.is_empty.ensures ∙ c.if-is_empty.true)

pub overflow_sub-result : goal.overflow_sub-result
overflow_sub-result c = omega (arith, c.fewer_added.ensures, fewer-named _ _ c.requires)

pub returns-in_default : goal.returns-in_default
unfolding added_rows
returns-in_default c =
    let rest = rest_of (remnant_of c.args.self.now.desk.now c.args.self.now.named.now) in
    let some : (eqb (number c.args.kind) 1 && is_empty rest) ≡ false =
    elim c.in_default.branch [
      | in_default-via-in-Merge+else-is_empty w ↦ rw (w.in-Merge.is, ← w.rest.ensures, sym w.is_empty.ensures ∙ w.if-is_empty.false)
      | in_default-via-in_default w ↦ rw (not-merge c.args.kind w.in_default.not-Merge)
    ] in
    rw (some, c.fewer_added.ensures)
