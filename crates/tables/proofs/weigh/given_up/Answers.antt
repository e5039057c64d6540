-- `given_up` meets its contract: the sum is over the first n rows.
use Prim.Native.Nat.{ℕ, ◌<◌, ◌^◌}
use mathlib.Core.Path.{◌≡◌, ◌∙◌, ap}
use mathlib.Core.List.{List}
use native.Mathlib.Nat.{zero-add}
use native.Mathlib.Omega.{arith}
use Rattle.std.proofs.Common.{rules}
use Rattle.std.proofs.lemmas.Iterator.{YieldsList-from_range, YieldsList-from_map}
use Rattle.std.proofs.lemmas.Iterator.Consumers.{sum_by_from_yields_List, fits_by_from_yields_list}
use Rattle.std.specs.List.{range_with_len, sum_by}
use Rattle.masks.specs.Sums.{sum}
use Rattle.masks.proofs.Sums.{sum-from_range, sum-ext}
use Rattle.rules.specs.Table.{most_weight, row_of, given_up}
use Rattle.tables.proofs.Rows.{given-fits}
use Rattle.tables.proofs.weigh.given_up.Goals as goal

-- what row i gives up
abbrev each : List ℕ → ℕ → ℕ → ℕ
each table reading i = given_up (row_of table i) reading

-- summed over the first n rows
total : (table : List ℕ) (reading n : ℕ) → sum_by (each table reading) (range_with_len 0 n) ≡ sum n (each table reading)
total table reading n = sum-from_range 0 n (each table reading) ∙ sum-ext n (λ i l. ap (each table reading) (zero-add i))

pub sum-requires-clause-fits : goal.sum-requires-clause-fits
unfolding row_of
sum-requires-clause-fits c =
    let f : ℕ → ℕ = each c.args.table.now c.args.reading in
    let most : sum_by f (range_with_len 0 c.args.n) < 2 ^ 64 =
    omega (arith, total c.args.table.now c.args.reading c.args.n, given-fits c.args.table.now c.args.reading c.args.n most_weight c.requires.i_bound) in
    fits_by_from_yields_list f (range_with_len 0 c.args.n) c.map.result _
    (YieldsList-from_map _ f (YieldsList-from_range 0 c.args.n c.args.n c.map.ensures.source (omega arith)) c.map.ensures.closure (λ x r q k. search rules)) most

pub returns : goal.returns
unfolding row_of
returns c =
    let f : ℕ → ℕ = each c.args.table.now c.args.reading in
    sum_by_from_yields_List f (range_with_len 0 c.args.n) c.map.result _ c.sum.ensures.ran
    (YieldsList-from_map _ f (YieldsList-from_range 0 c.args.n c.args.n c.map.ensures.source (omega arith)) c.map.ensures.closure (λ x r q k. search rules))
    ∙ total c.args.table.now c.args.reading c.args.n
