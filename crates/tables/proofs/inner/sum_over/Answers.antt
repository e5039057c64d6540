use mathlib.Core.Path.{◌≡◌, ap, sym, subst}
use Rattle.tables.proofs.Limits.{over-at-once, left-at-first, over-here, left_after, never-over}
use Prim.Native.Nat.{ℕ, ◌+◌, ◌*◌}
use mathlib.Core.List.{List}
use native.Mathlib.Omega.{arith}
use Rattle.masks.specs.Sums.{sum}
use Rattle.rules.specs.declared.Row.{Row}
use Rattle.rules.specs.Table.{row_words, most_weight, row_in}
use Rattle.tables.proofs.inner.sum_over.Goals as goal

abbrev weights : List ℕ → ℕ → ℕ → ℕ
weights words from i = (row_in words (from + row_words * i)).weight

pub returns-then-start-gt-MOST_WEIGHT : goal.returns-then-start-gt-MOST_WEIGHT
returns-then-start-gt-MOST_WEIGHT c = sym (over-at-once most_weight c.args.start (weights c.args.words.now c.args.from) c.args.n c.if-start-gt-MOST_WEIGHT.true)

pub loop-i-init : goal.loop-i-init
loop-i-init c = left-at-first most_weight c.args.start (weights c.args.words.now c.args.from) c.if-start-gt-MOST_WEIGHT.false

pub returns-then-row-left : goal.returns-then-row-left
returns-then-row-left c =
    let e = ap (λ (r : Row). r.weight) c.row_in-row.ensures in
    sym (over-here most_weight c.args.start (weights c.args.words.now c.args.from) c.loop-i.i c.args.n c.loop-i.left (omega arith) c.loop-i.invariant (omega (arith, e)))

pub loop-i-preserved : goal.loop-i-preserved
loop-i-preserved c =
    let e = ap (λ (r : Row). r.weight) c.row_in-row.ensures in
    rw e (left_after most_weight c.args.start (weights c.args.words.now c.args.from) c.loop-i.i c.loop-i.left c.loop-i.invariant (omega (arith, e)))

pub returns : goal.returns
returns c =
    let e : c.loop-i.i ≡ c.args.n = omega arith in
    let i = subst (λ (k : ℕ). c.loop-i.left + (c.args.start + sum k (weights c.args.words.now c.args.from)) ≡ most_weight) e c.loop-i.invariant in
    sym (never-over most_weight c.args.start (weights c.args.words.now c.args.from) c.args.n c.loop-i.left i)
