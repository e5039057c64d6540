-- `all_below` meets its contract: `all` looks at each row named.
use borrow.Author.Tests.{tests}
use Rattle.std.proofs.Common.{rules}
use Rattle.std.proofs.lemmas.Iterator.{cases_from_all, YieldsList-from_slice}
use lib.Dec.{ltb}
use mathlib.Core.Path.{◌≡◌}
use mathlib.Core.Bool.{true, false}
use Rattle.masks.proofs.Sums.{every-from_all}
use Rattle.named.proofs.rows.all_below.Goals as goal

pub returns : goal.returns
returns c =
    every-from_all c.all.result c.args.named.now (λ x. ltb x c.args.limit)
    (cases_from_all _ _ _ (λ x. ltb x c.args.limit ≡ true) (λ x. ltb x c.args.limit ≡ false) c.all.ensures.ran (YieldsList-from_slice c.args.named.now cc) (λ x q k. search (rules, tests)) (λ x q k. search (rules, tests)))
