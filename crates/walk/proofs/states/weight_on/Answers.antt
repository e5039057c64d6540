-- `weight_on` meets its contract: the sum is over the rows in use.
use Prim.Native.Nat.{ℕ, ◌+◌, ◌<◌, ◌≤◌, ◌^◌}
use mathlib.Core.Path.{◌≡◌, ◌∙◌, ap}
use mathlib.Core.List.{List}
use native.Mathlib.Nat.{zero-add}
use native.Mathlib.Omega.{arith}
use Rattle.std.proofs.Common.{rules}
use Rattle.std.proofs.lemmas.Iterator.{YieldsList-from_range, YieldsList-from_map}
use Rattle.std.proofs.lemmas.Iterator.Consumers.{sum_by_from_yields_List, fits_by_from_yields_list}
use Rattle.std.specs.List.{range_with_len, sum_by}
use Rattle.masks.specs.Sums.{sum}
use Rattle.masks.proofs.Sums.{sum-from_range, sum-ext}
use Rattle.rules.specs.Table.{most_weight}
use Rattle.rules.specs.Desk.{in_use, conceded, row_on, weight_on}
use Rattle.desk_laws.specs.Readable.{Readable}
use Rattle.walk.proofs.states.weight_on.Goals as goal

-- the weight of row i
abbrev each : List ℕ → ℕ → ℕ
each desk i = (row_on desk i).weight

-- summed over the rows in use
total : (desk : List ℕ) (n : ℕ) → n ≡ in_use desk → sum_by (each desk) (range_with_len 0 n) ≡ sum (in_use desk) (each desk)
total desk n e = sum-from_range 0 n (each desk) ∙ sum-ext n (λ i l. ap (each desk) (zero-add i)) ∙ ap (λ (k : ℕ). sum k (each desk)) e

most : (desk : List ℕ) → Readable desk → conceded desk + sum (in_use desk) (each desk) ≤ most_weight
unfolding weight_on
most desk r = r.weights

pub sum-weight-requires-clause-fits : goal.sum-weight-requires-clause-fits
sum-weight-requires-clause-fits c =
    let n = c.in_use-n.result in
    let fits : sum_by (each c.args.desk.words.now) (range_with_len 0 n) < 2 ^ 64 =
    omega (arith, total c.args.desk.words.now n c.in_use-n.ensures, most c.args.desk.words.now c.args.desk.readable) in
    fits_by_from_yields_list (each c.args.desk.words.now) (range_with_len 0 n) c.map.result _
    (YieldsList-from_map _ (each c.args.desk.words.now) (YieldsList-from_range 0 n n c.map.ensures.source (omega arith)) c.map.ensures.closure (λ x r q k. search rules)) fits

pub overflow_add-result : goal.overflow_add-result
overflow_add-result c =
    let n = c.in_use-n.result in
    let rows : c.sum-weight.result ≡ sum (in_use c.args.desk.words.now) (each c.args.desk.words.now) =
    sum_by_from_yields_List (each c.args.desk.words.now) (range_with_len 0 n) c.map.result _ c.sum-weight.ensures.ran
    (YieldsList-from_map _ (each c.args.desk.words.now) (YieldsList-from_range 0 n n c.map.ensures.source (omega arith)) c.map.ensures.closure (λ x r q k. search rules))
    ∙ total c.args.desk.words.now n c.in_use-n.ensures in
    omega (arith, rows, c.conceded.ensures, most c.args.desk.words.now c.args.desk.readable)

pub returns : goal.returns
unfolding weight_on
returns c =
    let n = c.in_use-n.result in
    let rows : c.sum-weight.result ≡ sum (in_use c.args.desk.words.now) (each c.args.desk.words.now) =
    sum_by_from_yields_List (each c.args.desk.words.now) (range_with_len 0 n) c.map.result _ c.sum-weight.ensures.ran
    (YieldsList-from_map _ (each c.args.desk.words.now) (YieldsList-from_range 0 n n c.map.ensures.source (omega arith)) c.map.ensures.closure (λ x r q k. search rules))
    ∙ total c.args.desk.words.now n c.in_use-n.ensures in
    omega (arith, rows, c.conceded.ensures)
