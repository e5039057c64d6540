-- What an admissible table is, as facts on its rows: none of 1, 2, the rows' 5 and 6, and 7 is due.
use Rattle.std.specs.Prelude.{Ok}
use Prim.Native.Nat.{ℕ, zero, suc, ◌*◌, ◌%◌, ◌<◌, ◌≤◌}
use mathlib.Core.Path.{◌≡◌, refl}
use mathlib.Core.Logic.{⊎_elim}
use mathlib.Core.Bool.{Bool, true, false, not, ◌&&◌, ◌||◌}
use mathlib.Core.List.{List}
use native.Mathlib.Omega.{arith}
use borrow.Author.Tests.{ltb-false, eqb-true, not-false}
use lib.Dec.{ltb, eqb}
use lib.Bits.{bit_and}
use lib.ListN.{length}
use Rattle.masks.specs.Masks.{none, below}
use Rattle.masks.specs.Sums.{sum}
use Rattle.masks.proofs.Choice.{or-none, and_left, and_right, lt-or-le, impossible}
use Rattle.literals.specs.Literal.{most_variables}
use Rattle.rules.specs.declared.Row.{Row}
use Rattle.rules.specs.declared.Refusal.TheVariants.{TooManyVariables, BadTable, BadLiterals, BadWeight, SumTooLarge}
use Rattle.rules.specs.Table.{row_words, most_rows, most_weight, hard_mark, is_hard, row_of, row_count}
use Rattle.rules.specs.Table.{bad_table, bad_lits, bad_mark, bad_weight, row_why, rows_why, sum_too_large, table_why}
use Rattle.rules.proofs.Judging.{refuse-fine, order-fine}

pub record RowFine (n : ℕ) (row : Row) : Type 0 where
  pub apart : bit_and row.lits.positive row.lits.negative ≡ 0
  pub positive : below row.lits.positive n ≡ true
  pub negative : below row.lits.negative n ≡ true
  pub light : row.weight ≤ most_weight
  pub mark : row.mark ≤ hard_mark
  pub weightless : is_hard row ≡ true → row.weight ≡ 0
  pub marked : bad_mark row ≡ false

-- what a mark that is not bad says
pub marked-fine : (row : Row) → bad_mark row ≡ false → (row.mark ≤ hard_mark) × (is_hard row ≡ true → row.weight ≡ 0)
unfolding bad_mark
marked-fine row e =
    let p = or-none (ltb hard_mark row.mark) (is_hard row && not (eqb row.weight 0)) e in
    (ltb-false hard_mark row.mark p.0, λ h. eqb-true row.weight 0 (not-false (eqb row.weight 0) (and-only (is_hard row) _ h p.1)))
  where
    and-only : (a b : Bool) → a ≡ true → a && b ≡ false → b ≡ false
    and-only true b h q = q
    and-only false b h q = impossible (cc)

-- a weight that is not bad is 0 or within the limit
light-fine : (row : Row) → bad_weight row ≡ false → row.weight ≤ most_weight
unfolding bad_weight
light-fine row e = go (is_hard row) refl
  where
    two : (bad_mark row ≡ false) × (not (is_hard row) && (eqb row.weight 0 || ltb most_weight row.weight) ≡ false)
    two = or-none (bad_mark row) (not (is_hard row) && (eqb row.weight 0 || ltb most_weight row.weight)) e

    go : (h : Bool) → is_hard row ≡ h → row.weight ≤ most_weight
    go true h = omega (arith, (marked-fine row two.0).1 h)
    go false h =
        let soft : (eqb row.weight 0 || ltb most_weight row.weight) ≡ false = rw h at two.1 in
        ltb-false most_weight row.weight (or-none (eqb row.weight 0) (ltb most_weight row.weight) soft).1

pub row_fine : (n i : ℕ) (row : Row) → row_why n i row ≡ Ok tt → RowFine n row
unfolding row_why bad_lits bad_weight bad_mark is_hard none
row_fine n i row e =
    let p1 = refuse-fine (bad_lits n row.lits) (BadLiterals i) _ e in
    let p2 = refuse-fine (bad_weight row) (BadWeight i) _ p1.1 in
    let both = bit_and row.lits.positive row.lits.negative in
    let low = below row.lits.positive n in
    let high = below row.lits.negative n in
    let l = or-none (not (none both)) (not (low && high)) p1.0 in
    let m = marked-fine row (or-none (bad_mark row) _ p2.0).0 in
    let b = not-false (low && high) l.1 in
    record {
      apart = eqb-true both 0 (not-false (none both) l.0);
      positive = and_left low high b;
      negative = and_right low high b;
      light = light-fine row p2.0;
      mark = m.0;
      weightless = m.1;
      marked = (or-none (bad_mark row) _ p2.0).0;
    }

pub rows-fine : (n : ℕ) (table : List ℕ) (m : ℕ) → rows_why n table m ≡ Ok tt → (i : ℕ) → i < m → RowFine n (row_of table i)
unfolding rows_why
rows-fine n table zero e i l = absurd (omega arith)
rows-fine n table (suc m) e i l =
    let p = order-fine (rows_why n table m) (row_why n m (row_of table m)) e in
    ⊎_elim
    (λ x. rows-fine n table m p.0 i x)
    (λ x. let q : i ≡ m = omega arith in rw q (row_fine n m (row_of table m) p.1))
    (lt-or-le i m)

-- 2 is not due: the words are whole rows, and not too many
pub whole-rows : (table : List ℕ) → bad_table table ≡ false → (length table ≡ row_words * row_count table) × (row_count table ≤ most_rows)
unfolding bad_table row_count
whole-rows table e =
    let t = or-none (not (eqb (length table % row_words) 0)) (ltb most_rows (row_count table)) e in
    let whole = eqb-true (length table % row_words) 0 (not-false (eqb (length table % row_words) 0) t.0) in
    (omega arith, ltb-false most_rows (row_count table) t.1)

pub record TableFine (n : ℕ) (table : List ℕ) : Type 0 where
  pub variables : n ≤ most_variables
  pub whole : length table ≡ row_words * row_count table
  pub few : row_count table ≤ most_rows
  pub rows : (i : ℕ) → i < row_count table → RowFine n (row_of table i)
  pub light : sum (row_count table) (λ i. (row_of table i).weight) ≤ most_weight

pub table-fine : (n : ℕ) (table : List ℕ) → table_why n table ≡ Ok tt → TableFine n table
unfolding table_why sum_too_large
table-fine n table e =
    let p1 = refuse-fine (ltb most_variables n) TooManyVariables _ e in
    let p2 = refuse-fine (bad_table table) BadTable _ p1.1 in
    let p3 = order-fine (rows_why n table (row_count table)) _ p2.1 in
    let p4 = refuse-fine (sum_too_large table) SumTooLarge (Ok tt) p3.1 in
    let shape = whole-rows table p2.0 in
    record {
      variables = ltb-false most_variables n p1.0;
      whole = shape.0;
      few = shape.1;
      rows = rows-fine n table (row_count table) p3.0;
      light = ltb-false most_weight (sum (row_count table) (λ i. (row_of table i).weight)) p4.0;
    }
