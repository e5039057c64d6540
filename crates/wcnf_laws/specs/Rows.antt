-- The table that a text of the form gives, row by row: hard where the clause's weight is top or above, else of that weight; and of the literals those that
-- the clause names and no other. Masks have a bit for each variable up to the most there can be.
use Rattle.std.specs.Prelude.{ℕ, suc, ◌*◌, ◌^◌, ◌<◌, ◌≤◌, ◌≡◌, true, ℤ, pos, negsuc, length, drop}
use mathlib.Core.List.{List, ◌∷◌, ◌++◌, Memᴰ}
use Rattle.masks.specs.Masks.{has}
use Rattle.literals.specs.Literal.{most_variables}
use Rattle.rules.specs.declared.Row.{Row}
use Rattle.rules.specs.Table.{row_words, hard_mark, row_of}
use Rattle.wcnf_laws.specs.Form.{ClauseLine, Form, numbers_of}

pub record RowSays (row : Row) (top weight : ℕ) (ls : List ℤ) : Type 0 where
  -- C-16: "WCNF reads weights at top or above as hard", and a hard row's weight word is 0
  pub soft : weight < top → (row.weight ≡ weight) × (row.mark ≡ 0)
  pub hard : top ≤ weight → (row.weight ≡ 0) × (row.mark ≡ hard_mark)
  pub positive-bits : row.lits.positive < 2 ^ most_variables
  pub negative-bits : row.lits.negative < 2 ^ most_variables
  pub positive : (v : ℕ) → has row.lits.positive v ≡ true → Memᴰ (pos (suc v)) ls
  pub each-positive : (v : ℕ) → v < most_variables → Memᴰ (pos (suc v)) ls → has row.lits.positive v ≡ true
  pub negative : (v : ℕ) → has row.lits.negative v ≡ true → Memᴰ (negsuc v) ls
  pub each-negative : (v : ℕ) → v < most_variables → Memᴰ (negsuc v) ls → has row.lits.negative v ≡ true

pub record TableSays (words : List ℕ) (f : Form) : Type 0 where
  pub long : length words ≡ row_words * f.header.clauses
  pub rows : (before : List ClauseLine) (c : ClauseLine) (behind : List ClauseLine) → f.lines ≡ before ++ (c ∷ behind)
      → RowSays (row_of words (length before)) f.header.top c.weight (numbers_of c.literals)

-- the lent words afterwards: the table's in front, the rest as found
pub record Laid (f : Form) (lent after : List ℕ) : Type 0 where
  pub words : List ℕ
  pub says : TableSays words f
  pub laid : after ≡ words ++ drop (length words) lent
