-- The pieces that the writer stores: a variable more adds its literal to the line, parted where the line is not empty, and no piece is
-- longer than its digits, keys and signs allow.
use Prim.Native.Nat.{ℕ, zero, suc, ◌+◌, ◌*◌, ◌≤◌}
use mathlib.Core.Path.{◌≡◌, refl, sym, ap, ◌∙◌}
use mathlib.Core.Logic.{⊎_elim}
use mathlib.Core.Bool.{Bool, true, false, cond}
use mathlib.Core.List.{List, [], ◌∷◌, ◌++◌, append-nil, append_assoc}
use native.Mathlib.Nat.{add-zero}
use native.Mathlib.Numerals.{add-one}
use native.Mathlib.Omega.{arith}
use borrow.Author.Tests.{eq-eqb, ne_eqb}
use lib.Dec.{eqb}
use lib.ListN.{length, length-append}
use Rattle.masks.specs.Masks.{has}
use Rattle.masks.proofs.Choice.{cases}
use Rattle.literals.specs.declared.Lits.{Lits}
use Rattle.literals.specs.Literal.{most_variables}
use Rattle.rules.specs.declared.Row.{Row}
use Rattle.rules.specs.Table.{row_count, row_of}
use Rattle.rules.specs.Text.{bytes, number_text, line, behind, lits_text, row_text, rows_text, table_text, line_feed, space, minus, most_digits}
use Rattle.text_laws.specs.Keys.{vars_key, budget_key, rows_key, weight_key, hard_key, lits_key}
use Rattle.text_laws.specs.Pieces.{line_text, list_line, list_text, head_lines, parting, literal_piece}
use Rattle.text_laws.specs.Lengths.{most_number_end, most_literal, most_lits, most_lits_end, most_head, most_row}
use Rattle.text_laws.proofs.Numbers.{digits-length}

pub number-length : (n : ℕ) → length (number_text n) ≤ most_digits
unfolding number_text
number-length n = digits-length most_digits n

pub parting-first : parting true ≡ []
unfolding parting
parting-first = refl

pub parting-later : parting false ≡ space ∷ []
unfolding parting
parting-later = refl

pub parting-length : (first : Bool) → length (parting first) ≤ 1
unfolding parting
parting-length true = omega arith
parting-length false = omega arith

module _ (first : Bool) (v : ℕ) (l : Lits) where
  pub literal-positive : has l.positive v ≡ true → literal_piece first v l ≡ parting first ++ number_text (v + 1)
  unfolding literal_piece
  literal-positive e = rw e

  pub literal-negative : has l.positive v ≡ false → has l.negative v ≡ true → literal_piece first v l ≡ parting first ++ (minus ∷ number_text (v + 1))
  unfolding literal_piece
  literal-negative e f = rw (e, f)

  pub literal-none : has l.positive v ≡ false → has l.negative v ≡ false → literal_piece first v l ≡ []
  unfolding literal_piece
  literal-none e f = rw (e, f)

  pub literal-length : length (literal_piece first v l) ≤ most_literal
  literal-length =
      let n = number-length (v + 1) in
      let p = parting-length first in
      ⊎_elim (λ t. rw (literal-positive t, length-append (parting first) (number_text (v + 1))) (omega arith))
      (λ f.
      ⊎_elim (λ t. rw (literal-negative f t, length-append (parting first) (minus ∷ number_text (v + 1))) (omega arith))
      (λ g. rw (literal-none f g) (omega arith))
      (cases (has l.negative v)))
      (cases (has l.positive v))

-- one more variable
behind-is : (at : ℕ) (before literal : List ℕ) → behind before literal ≡ before ++ (parting (eqb (at + length before) at) ++ literal)
unfolding behind parting
behind-is at [] literal = rw (eq-eqb (at + 0) at (add-zero at))
behind-is at (b ∷ before) literal = rw (ne_eqb (at + suc (length before)) at (λ e. omega arith))

pub lits-step : (at v : ℕ) (l : Lits) → lits_text (v + 1) l ≡ lits_text v l ++ literal_piece (eqb (at + length (lits_text v l)) at) v l
unfolding lits_text literal_piece
lits-step at v l = rw add-one (go (has l.positive v) (has l.negative v))
  where
    before : List ℕ
    before = lits_text v l

    part : List ℕ
    part = parting (eqb (at + length (lits_text v l)) at)

    go : (p n : Bool)
        → cond p (behind (lits_text v l) (number_text (suc v))) (cond n (behind (lits_text v l) (minus ∷ number_text (suc v))) (lits_text v l))
        ≡ lits_text v l ++ cond p (part ++ number_text (suc v)) (cond n (part ++ (minus ∷ number_text (suc v))) [])
    go true n = behind-is at (lits_text v l) (number_text (suc v))
    go false true = behind-is at (lits_text v l) (minus ∷ number_text (suc v))
    go false false = sym (append-nil (lits_text v l))

pub lits-none : (l : Lits) → lits_text 0 l ≡ []
unfolding lits_text
lits-none l = refl

pub lits-length : (n : ℕ) (l : Lits) → length (lits_text n l) ≤ most_lits n
lits-length zero l = rw (lits-none l) (omega arith)
lits-length (suc n) l =
    let piece = literal_piece (eqb (0 + length (lits_text n l)) 0) n l in
    let e : lits_text (suc n) l ≡ lits_text n l ++ piece = ap (λ (k : ℕ). lits_text k l) (sym (add-one n)) ∙ lits-step 0 n l in
    rw (e, length-append (lits_text n l) piece) (omega (arith, lits-length n l, literal-length (eqb (0 + length (lits_text n l)) 0) n l))

-- lines and rows
pub line-length : (key : List ℕ) (n : ℕ) → length (line_text key n) ≤ length key + most_number_end
unfolding line_text
line-length key n =
    rw (length-append key (number_text n ++ (line_feed ∷ [])), length-append (number_text n) (line_feed ∷ []))
    (omega (arith, number-length n))

pub list_length : (key : List ℕ) (n : ℕ) (l : Lits) → length (list_line key n l) ≤ length key + most_lits_end n
list_length key n l =
    rw (length-append key (lits_text n l ++ (line_feed ∷ [])), length-append (lits_text n l) (line_feed ∷ []))
    (omega (arith, lits-length n l))

pub head-most : (n b m : ℕ) → length (head_lines n b m) ≤ most_head
head-most n b m =
    let one = line_text vars_key n in
    let two = line_text budget_key b in
    let three = line_text rows_key m in
    rw (length-append one (two ++ three), length-append two three)
    (omega (arith, line-length vars_key n, line-length budget_key b, line-length rows_key m))

pub table-lines : (n b : ℕ) (table : List ℕ) → table_text n b table ≡ head_lines n b (row_count table) ++ rows_text table (row_count table)
unfolding table_text line bytes line_text
table-lines n b table =
    let m = row_count table in
    sym
    (append_assoc (line_text vars_key n) (line_text budget_key b ++ line_text rows_key m) (rows_text table m)
    ∙ rw (append_assoc (line_text budget_key b) (line_text rows_key m) (rows_text table m)))

pub row-text : (row : Row) → row_text row ≡ line_text weight_key row.weight ++ (line_text hard_key row.mark ++ list_text row.lits)
unfolding row_text line bytes line_text
row-text row = refl

pub row-length : (row : Row) → length (row_text row) ≤ most_row
row-length row =
    let one = line_text weight_key row.weight in
    let two = line_text hard_key row.mark in
    let three = list_text row.lits in
    rw (row-text row, length-append one (two ++ three), length-append two three)
    (omega (arith, line-length weight_key row.weight, line-length hard_key row.mark, list_length lits_key most_variables row.lits))

pub rows_none : (table : List ℕ) → rows_text table 0 ≡ []
unfolding rows_text
rows_none table = refl

pub rows_step : (table : List ℕ) (i : ℕ) → rows_text table (i + 1) ≡ rows_text table i ++ row_text (row_of table i)
unfolding rows_text
rows_step table i = rw add-one

pub rows-length : (table : List ℕ) (m : ℕ) → length (rows_text table m) ≤ most_row * m
rows-length table zero = rw (rows_none table) (omega arith)
rows-length table (suc m) =
    let e : rows_text table (suc m) ≡ rows_text table m ++ row_text (row_of table m) = ap (rows_text table) (sym (add-one m)) ∙ rows_step table m in
    rw (e, length-append (rows_text table m) (row_text (row_of table m))) (omega (arith, rows-length table m, row-length (row_of table m)))
