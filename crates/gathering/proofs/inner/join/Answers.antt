-- `join` meets its contract: whether the variable is needed decides.
use native.Mathlib.Omega.{arith}
use Rattle.gathering.proofs.Joining.{not-needed, needed-joins}
use Rattle.gathering.proofs.inner.join.Goals as goal

pub returns-then-variable-g-eq0 : goal.returns-then-variable-g-eq0
returns-then-variable-g-eq0 c =
    record {
      group_after = not-needed c.args.desk.now c.args.weights.now c.args.p c.args.variable c.args.row c.args.g c.args.group.now c.if-variable-g-eq0.true;
      size_bound = omega arith;
    }

pub returns : goal.returns
returns c =
    record {
      group_after = needed-joins c.args.desk.now c.args.weights.now c.args.p c.args.variable c.args.row c.args.g c.args.group.now _ c.row_on-there.ensures _
          c.remnant-rest.ensures
          c.if-variable-g-eq0.false c.requires.room _ c.min-cost.ensures;
      size_bound = omega arith;
    }
