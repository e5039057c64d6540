-- `top` meets its contract: the sum is over all rows, and one more fits.
use Prim.Native.Nat.{ℕ, ◌+◌, ◌<◌, ◌^◌}
use mathlib.Core.Path.{◌≡◌, ◌∙◌, ap}
use mathlib.Core.List.{List}
use native.Mathlib.Nat.{zero-add}
use native.Mathlib.Omega.{arith}
use Rattle.std.proofs.Common.{rules}
use Rattle.std.proofs.lemmas.Iterator.{YieldsList-from_range, YieldsList-from_map}
use Rattle.std.proofs.lemmas.Iterator.Consumers.{sum_by_from_yields_List, fits_by_from_yields_list}
use Rattle.std.specs.List.{range_with_len, sum_by}
use Rattle.masks.specs.Sums.{sum}
use Rattle.masks.proofs.Sums.{sum-from_range, sum-ext}
use Rattle.rules.specs.Table.{row_of, row_count}
use Rattle.rules.specs.Wcnf.{top_of}
use Rattle.wcnf_writer.proofs.texts.FileText.top.Goals as goal

-- what row i weighs
abbrev each : List ℕ → ℕ → ℕ
each table i = (row_of table i).weight

-- summed over the first n rows
total : (table : List ℕ) (n : ℕ) → sum_by (each table) (range_with_len 0 n) ≡ sum n (each table)
total table n = sum-from_range 0 n (each table) ∙ sum-ext n (λ i l. ap (each table) (zero-add i))

pub sum-weights-requires-clause-fits : goal.sum-weights-requires-clause-fits
unfolding row_count row_of
sum-weights-requires-clause-fits c =
    let n = row_count c.args.self.now.table.now in
    let most : sum_by (each c.args.self.now.table.now) (range_with_len 0 n) < 2 ^ 64 = omega (arith, total c.args.self.now.table.now n, c.args.self.now.light) in
    fits_by_from_yields_list (each c.args.self.now.table.now) (range_with_len 0 n) c.map.result _
    (YieldsList-from_map _ (each c.args.self.now.table.now) (YieldsList-from_range 0 n n c.map.ensures.source (omega arith)) c.map.ensures.closure
    (λ x r q k. search rules))
    most

sum-is : (c : goal.After-sum-weights) → c.sum-weights.result ≡ sum (row_count c.args.self.now.table.now) (each c.args.self.now.table.now)
unfolding row_count row_of
sum-is c =
    let n = row_count c.args.self.now.table.now in
    sum_by_from_yields_List (each c.args.self.now.table.now) (range_with_len 0 n) c.map.result _ c.sum-weights.ensures.ran
    (YieldsList-from_map _ (each c.args.self.now.table.now) (YieldsList-from_range 0 n n c.map.ensures.source (omega arith)) c.map.ensures.closure
    (λ x r q k. search rules))
    ∙ total c.args.self.now.table.now n

pub overflow_add-result : goal.overflow_add-result
overflow_add-result c = omega (arith, sum-is c, c.args.self.now.light)

pub returns : goal.returns
unfolding top_of
returns c = ap (λ w. w + 1) (sum-is c)
