-- `rows_sound` meets its contract: `all` looks at each of the first n rows.
use Prim.Native.Nat.{ℕ}
use mathlib.Core.Path.{◌≡◌, refl}
use mathlib.Core.List.{List}
use mathlib.Core.Bool.{Bool, true, false, not, ◌||◌}
use native.Mathlib.Omega.{arith}
use borrow.Author.Tests.{tests}
use Rattle.std.proofs.Common.{rules}
use Rattle.std.proofs.lemmas.Iterator.{cases_from_all, YieldsList-from_range}
use Rattle.masks.proofs.Sums.{every-from_range}
use Rattle.rules.specs.Table.{bad_lits, bad_mark}
use Rattle.rules.specs.Desk.{row_on}
use Rattle.formed.proofs.rows_sound.Goals as goal

-- row i has no variable both ways or above the count, and no bad mark
abbrev sound : List ℕ → ℕ → ℕ → Bool
sound desk variables i = not (bad_lits variables (row_on desk i).lits || bad_mark (row_on desk i))

pub returns : goal.returns
returns c =
    let p = sound c.args.desk.now c.args.variables in
    every-from_range c.all.result c.args.n p
    (cases_from_all _ _ _ (λ i. p i ≡ true) (λ i. p i ≡ false) c.all.ensures.ran (YieldsList-from_range 0 c.args.n c.args.n refl (omega arith)) (λ x q k. search (rules, tests)) (λ x q k. search (rules, tests)))
