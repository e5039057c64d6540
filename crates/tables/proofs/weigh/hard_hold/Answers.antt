-- `hard_hold` meets its contract: `all` looks at each of the first n rows.
use Prim.Native.Nat.{ℕ}
use mathlib.Core.Path.{◌≡◌, refl}
use mathlib.Core.List.{List}
use mathlib.Core.Bool.{Bool, true, false, not}
use native.Mathlib.Omega.{arith}
use borrow.Author.Tests.{tests}
use Rattle.std.proofs.Common.{rules}
use Rattle.std.proofs.lemmas.Iterator.{cases_from_all, YieldsList-from_range}
use Rattle.masks.proofs.Sums.{every-from_range}
use Rattle.rules.specs.Table.{row_of, breaks}
use Rattle.tables.proofs.weigh.hard_hold.Goals as goal

-- row i is not broken
abbrev kept : List ℕ → ℕ → ℕ → Bool
kept table reading i = not (breaks (row_of table i) reading)

pub returns : goal.returns
unfolding row_of
returns c =
    let p = kept c.args.table.now c.args.reading in
    every-from_range c.all.result c.args.n p
    (cases_from_all _ _ _ (λ i. p i ≡ true) (λ i. p i ≡ false) c.all.ensures.ran (YieldsList-from_range 0 c.args.n c.args.n refl (omega arith)) (λ x q k. search (rules, tests)) (λ x q k. search (rules, tests)))
