-- `changed` meets its contract: each branch is the definition's.
use native.Mathlib.Omega.{arith}
use Rattle.named.proofs.inner.changed.Goals as goal

pub overflow_add-result : goal.overflow_add-result
overflow_add-result c =
    let h = rw c.if-regain.true at c.requires.weight_bound in
    omega arith

pub overflow_sub-result : goal.overflow_sub-result
overflow_sub-result c =
    let h = rw c.if-regain.false at c.requires.w_bound in
    omega arith

pub returns-then-regain : goal.returns-then-regain
returns-then-regain c = rw c.if-regain.true

pub returns-else-regain : goal.returns-else-regain
returns-else-regain c = rw c.if-regain.false
