-- `walk` meets its contract: each of its returns is a law of the walk's definition, by the tests that led there.
use Prim.Native.Nat.{ℕ, ◌<◌, min}
use mathlib.Core.Path.{◌≡◌, sym, ap, ap₂, ◌∙◌}
use mathlib.Core.List.{List}
use mathlib.Core.Bool.{Bool, true, false}
use native.Mathlib.Omega.{arith}
use lib.ListN.{length}
use Rattle.rules.specs.declared.Part.{Part}
use Rattle.rules.specs.declared.Walked.{Walked}
use Rattle.rules.specs.Desk.{variables}
use Rattle.rules.specs.Walk.{fixed, kept_at, undecided, price_of, tried_first}
use Rattle.desk_laws.specs.Readable.{Readable}
use Rattle.walk.specs.Next.{Next}
use Rattle.walk_laws.proofs.Branches.{walk_refused, walk-cut}
use Rattle.walk.proofs.Below.{fewer-left, at_leaf, both-branches}
use Rattle.walk.proofs.depth.+walk.Goals as goal

-- the number of undecided variables
abbrev lefts : List ℕ → Part → ℕ
lefts d p = length (undecided (variables d) p.decided)

-- a price that is below best is known
known : (best r price : ℕ) → r < best → min best r ≡ min best price → r ≡ price
known best r price l e = omega arith

-- a call with the next variable fixed has fewer left
smaller : (t : ℕ) (d : List ℕ) (p : Part) (v : ℕ) (value : Bool) (q : Part) → lefts d p ≡ t → Readable d → Next p.decided v → v < variables d
    → q ≡ fixed p v value → lefts d q < t
smaller t d p v value q e r next h f = omega (arith, ap (lefts d) f, fewer-left (variables d) v r.bits p next h value)

pub returns-then-s-budget : goal.returns-then-s-budget
returns-then-s-budget t c =
    c.halted.ensures
    ∙ sym (walk_refused (price_of c.args.choice c.args.desk.words.now) tried_first c.args.budget (undecided (variables c.args.desk.words.now) c.args.p.decided) c.args.p c.args.s
    (omega (arith, c.if-s-budget.true)))

pub returns-then-price-s : goal.returns-then-price-s
returns-then-price-s t c =
    c.visited-here.ensures
    ∙ sym (walk-cut (price_of c.args.choice c.args.desk.words.now) tried_first c.args.budget (undecided (variables c.args.desk.words.now) c.args.p.decided) c.args.p c.args.s
    (omega (arith, c.if-s-budget.false))
    (omega (arith, c.if-price-s.true, c.price_at-price.ensures)))

pub returns-then-v-variables : goal.returns-then-v-variables
returns-then-v-variables t c =
    let below : c.price_at-price.result < c.args.s.best = omega (arith, c.if-price-s.false) in
    c.kept_at.ensures
    ∙ ap₂ (λ (w : ℕ) (x : Walked). kept_at w c.args.p.truths x)
    (known c.args.s.best c.price_at-price.result (price_of c.args.choice c.args.desk.words.now c.args.p) below c.price_at-price.ensures) c.visited-here.ensures
    ∙ at_leaf (variables c.args.desk.words.now) c.next-v.result c.args.desk.readable.bits c.args.p c.next-v.ensures (price_of c.args.choice c.args.desk.words.now)
    tried_first c.args.budget c.args.s
    (omega (arith, c.if-s-budget.false))
    (omega (arith, c.if-price-s.false, c.price_at-price.ensures))
    (omega (arith, c.if-v-variables.true, c.variables.ensures))

pub walk-one-requires : goal.walk-one-requires
walk-one-requires t c = (
  smaller t c.args.desk.words.now c.args.p c.next-v.result true c.fixed.result c.decreases c.args.desk.readable c.next-v.ensures
      (omega (arith, c.if-v-variables.false, c.variables.ensures))
      c.fixed.ensures,
  omega (arith, c.requires, c.price_at-price.auto.work),
)

pub walk-requires : goal.walk-requires
walk-requires t c = (
  smaller t c.args.desk.words.now c.args.p c.next-v.result false c.fixed-2.result c.decreases c.args.desk.readable c.next-v.ensures
      (omega (arith, c.if-v-variables.false, c.variables.ensures))
      c.fixed-2.ensures,
  omega (arith, c.requires, c.price_at-price.auto.work, c.walk-one.auto.work),
)

pub returns : goal.returns
returns t c =
    both-branches (variables c.args.desk.words.now) c.next-v.result c.args.desk.readable.bits c.args.p c.next-v.ensures (price_of c.args.choice c.args.desk.words.now)
    tried_first c.args.budget c.args.s
    (omega (arith, c.if-s-budget.false))
    (omega (arith, c.if-price-s.false, c.price_at-price.ensures))
    (omega (arith, c.if-v-variables.false, c.variables.ensures))
    c.fixed.result c.fixed-2.result c.visited-here.result c.walk-one.result c.walk.result
    c.fixed.ensures c.fixed-2.ensures c.visited-here.ensures c.walk-one.ensures c.walk.ensures
