-- Document 01, "The text", by its lines. The form is the set of texts that are written (`table_text`), of whatever the form can hold; a line breaks it
-- where no such text has the same lines up to it. Nothing here knows the reader: that it finds this line is a law of this crate.
use Rattle.std.specs.Prelude.{ℕ, zero, suc, ◌*◌, ◌^◌, ◌<◌, ◌≤◌, ◌≡◌, List, [], ◌∷◌, false, cond, length, eqb}
use Rattle.std.specs.Int.Bits.{bit_and}
use Rattle.literals.specs.Literal.{most_variables}
use Rattle.rules.specs.declared.Row.{Row}
use Rattle.rules.specs.Table.{row_words, hard_mark, row_count, row_of}
use Rattle.rules.specs.Text.{line_feed, most_digits, table_text}

-- ---- lines

-- "Every line ends in LF": the bytes before it; bytes with none behind them; nothing
pub data Line : Type 0 where
  ended : List ℕ → Line
  unended : List ℕ → Line
  missing : Line

abbrev pub in_front_of : ℕ → Line → Line
in_front_of b (ended bytes) = ended (b ∷ bytes)
in_front_of b (unended bytes) = unended (b ∷ bytes)
in_front_of b missing = unended (b ∷ [])

-- the first line of a text, and the text behind it
unfoldable pub first_line : List ℕ → Line
first_line [] = missing
first_line (b ∷ s) = cond (eqb b line_feed) (ended []) (in_front_of b (first_line s))

unfoldable pub past_line : List ℕ → List ℕ
past_line [] = []
past_line (b ∷ s) = cond (eqb b line_feed) s (past_line s)

unfoldable pub first_lines : ℕ → List ℕ → List Line
first_lines zero s = []
first_lines (suc k) s = first_line s ∷ first_lines k (past_line s)

-- line k, counted from 1
unfoldable pub line_at : ℕ → List ℕ → Line
line_at zero s = missing
line_at (suc zero) s = first_line s
line_at (suc (suc k)) s = line_at (suc k) (past_line s)

-- bytes that are within one line
abbrev pub NoFeed : List ℕ → Type 0
NoFeed [] = Unit
NoFeed (b ∷ s) = (eqb b line_feed ≡ false) × NoFeed s

-- ---- the form

-- "variables strictly rising from 1 to 64", so that none stands both ways; "1 to 10 digits"; "`hard=`, 0 or 1"
pub record RowHeld (row : Row) : Type 0 where
  pub positive : row.lits.positive < 2 ^ most_variables
  pub negative : row.lits.negative < 2 ^ most_variables
  pub apart : bit_and row.lits.positive row.lits.negative ≡ 0
  pub light : row.weight < 10 ^ most_digits
  pub mark : row.mark ≤ hard_mark

-- what the form can hold, whether it is admissible or not
pub record Held (variables budget : ℕ) (table : List ℕ) : Type 0 where
  pub variables-digits : variables < 10 ^ most_digits
  pub budget-digits : budget < 10 ^ most_digits
  pub rows-digits : row_count table < 10 ^ most_digits
  pub whole : length table ≡ row_words * row_count table
  pub rows : (i : ℕ) → i < row_count table → RowHeld (row_of table i)

-- the first k lines are those of a text that is written
pub record InForm (text : List ℕ) (k : ℕ) : Type 0 where
  pub variables : ℕ
  pub budget : ℕ
  pub table : List ℕ
  pub held : Held variables budget table
  pub alike : first_lines k text ≡ first_lines k (table_text variables budget table)

-- "The first line that breaks the form is the place, counted from 1"
pub record FirstBroken (text : List ℕ) (k : ℕ) : Type 0 where
  pub before : (j : ℕ) → j < k → InForm text j
  pub breaks : InForm text k → ⊥
