-- Rows judged in order: the first refusal stays, however many rows follow. And what a reading gives up is at most the rows' weights.
use Rattle.std.specs.Prelude.{Ok, Err}
use Prim.Native.Nat.{ℕ, suc, ◌+◌, ◌*◌, ◌/◌, ◌≤◌}
use mathlib.Core.Path.{◌≡◌, refl, ap, ◌∙◌}
use mathlib.Core.List.{List}
use mathlib.Core.Bool.{not}
use native.Mathlib.Omega.{arith}
use native.Mathlib.Nat.{le_refl, zero-add}
use lib.ListN.{length}
use lib.Dec.{ltb}
use borrow.Author.Tests.{ltb-false}
use native.Mathlib.Numerals.{add-one}
use native.Mathlib.Decide.{le_ind}
use Rattle.masks.specs.Masks.{below}
use Rattle.masks.specs.Sums.{sum}
use Rattle.literals.specs.Literal.{most_variables}
use Rattle.masks.proofs.Sums.{sum-le}
use Rattle.masks.proofs.Choice.{cond-elim}
use Rattle.rules.specs.declared.Row.{Row}
use Rattle.rules.specs.declared.Refusal.{Refusal}
use Rattle.rules.specs.declared.Refusal.TheVariants.{TooManyVariables, BadTable, SumTooLarge, BadReading}
use Rattle.rules.specs.Refusals.{Judged, refuse, in_order}
use Rattle.rules.specs.Table.{row_words, most_weight, row_in, row_of, row_count, holds, given_up, bad_table, row_why, rows_why, sum_too_large, table_why, weigh_why}
use Rattle.rules.proofs.Judging.{refuse-fine, order-fine}

pub rows_none : (v : ℕ) (t : List ℕ) → rows_why v t 0 ≡ Ok tt
unfolding rows_why
rows_none v t = refl

pub rows_more : (v : ℕ) (t : List ℕ) (i : ℕ) → rows_why v t (i + 1) ≡ in_order (rows_why v t i) (row_why v i (row_of t i))
unfolding rows_why
rows_more v t i = rw add-one

-- rows that are fine so far leave it to the next
pub rows_next : (v : ℕ) (t : List ℕ) (i : ℕ) → rows_why v t i ≡ Ok tt → rows_why v t (i + 1) ≡ row_why v i (row_of t i)
rows_next v t i e = rows_more v t i ∙ ap (λ (j : Judged). in_order j (row_why v i (row_of t i))) e

stay : (v : ℕ) (t : List ℕ) (r : Refusal) (i : ℕ) → rows_why v t i ≡ Err r → rows_why v t (suc i) ≡ Err r
unfolding rows_why
stay v t r i e = ap (λ (j : Judged). in_order j (row_why v i (row_of t i))) e

-- a refusal among the first rows is that of all of them
pub rows-refused : (v : ℕ) (t : List ℕ) (r : Refusal) (i n : ℕ) → i ≤ n → rows_why v t i ≡ Err r → rows_why v t n ≡ Err r
rows-refused v t r i n h e = le_ind (λ (m : ℕ). rows_why v t m ≡ Err r) e (λ m k. stay v t r m) n h

pub given-le : (row : Row) (reading : ℕ) → given_up row reading ≤ row.weight
unfolding given_up
given-le row reading =
    cond-elim (λ (x : ℕ). x ≤ row.weight) (holds row.lits reading) 0 row.weight (λ e. omega arith) (λ e. le_refl _)

-- what is given up stays within a limit of all weights
pub given-fits : (t : List ℕ) (reading n limit : ℕ) → sum n (λ k. (row_of t k).weight) ≤ limit → sum n (λ k. given_up (row_of t k) reading) ≤ limit
given-fits t reading n limit fits =
    omega (arith, sum-le n {f = λ k. given_up (row_of t k) reading} {g = λ k. (row_of t k).weight} (λ k _. given-le (row_of t k) reading))

-- the sum that starts at 0, at the first word
pub sum-from-first : (t : List ℕ) → ltb most_weight (0 + sum (length t / row_words) (λ i. (row_in t (0 + row_words * i)).weight)) ≡ sum_too_large t
unfolding sum_too_large row_count row_of
sum-from-first t = simp zero-add

-- weights that a table was not refused for
pub table-sum : (v : ℕ) (t : List ℕ) → table_why v t ≡ Ok tt → sum (length t / row_words) (λ i. (row_of t i).weight) ≤ most_weight
unfolding table_why sum_too_large row_count
table-sum v t e =
    let last = refuse (sum_too_large t) SumTooLarge (Ok tt) in
    let rows = in_order (rows_why v t (row_count t)) last in
    let e1 = (refuse-fine (ltb most_variables v) TooManyVariables (refuse (bad_table t) BadTable rows) e).1 in
    let e2 = (refuse-fine (bad_table t) BadTable rows e1).1 in
    let e3 = (order-fine (rows_why v t (row_count t)) last e2).1 in
    ltb-false most_weight (sum (row_count t) (λ i. (row_of t i).weight)) (refuse-fine (sum_too_large t) SumTooLarge (Ok tt) e3).0

pub weigh-sum : (v : ℕ) (t : List ℕ) (reading : ℕ) → weigh_why v t reading ≡ Ok tt → sum (length t / row_words) (λ i. (row_of t i).weight) ≤ most_weight
unfolding weigh_why
weigh-sum v t reading e = table-sum v t (order-fine (table_why v t) (refuse (not (below reading v)) BadReading (Ok tt)) e).0
