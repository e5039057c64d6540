-- `shares` meets its contract: whether anything is left of the row chooses.
use Prim.Native.Nat.{ℕ, ◌+◌}
use mathlib.Core.Path.{ap, ◌∙◌}
use native.Mathlib.Omega.{arith}
use Rattle.rules.specs.declared.Row.{Row}
use Rattle.rules.specs.Table.{with_weight}
use Rattle.working_weights.specs.Works.{unsatisfied_weight}
use Rattle.working_weights.proofs.Sharing.{all-lost, all-works}
use Rattle.working_weights.proofs.inner.shares.Goals as goal

pub overflow_add-row : goal.overflow_add-row
overflow_add-row c = omega (arith, c.requires, c.charge_on.ensures)

pub returns-then-rest-eq0 : goal.returns-then-rest-eq0
returns-then-rest-eq0 c =
    let charged =
    c.with_weight-charged.ensures ∙ ap (λ (w : ℕ). with_weight c.args.row (c.args.row.weight + w)) c.charge_on.ensures in
    all-lost c.args.p c.args.charge c.args.row _ c.remnant-rest.ensures c.if-rest-eq0.true _
    (c.unsatisfied_weight-lost.ensures ∙ ap (λ (r : Row). unsatisfied_weight c.args.p r) charged)

pub returns : goal.returns
returns c = all-works c.args.p c.args.charge c.args.row _ c.remnant-rest.ensures c.if-rest-eq0.false _ c.unsatisfied_weight-working.ensures
