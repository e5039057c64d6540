-- Document 02, C-11: competition files, DIMACS WCNF in its older form: what is written.
use Rattle.std.specs.Prelude.{ℕ, zero, suc, ◌+◌, List, [], ◌∷◌, ◌++◌, cond, Result}
use Rattle.masks.specs.Masks.{has}
use Rattle.masks.specs.Sums.{sum}
use Rattle.literals.specs.declared.Lits.{Lits}
use Rattle.literals.specs.Literal.{most_variables}
use Rattle.rules.specs.declared.Row.{Row}
use Rattle.rules.specs.Refusals.{Judged}
use Rattle.rules.specs.Table.{row_of, row_count, is_hard, table_why}
use Rattle.rules.specs.Text.{bytes, line_feed, space, minus, number_text, text_why, text_written, text_out}
use Rattle.rules.specs.declared.Refusal.{Refusal}

-- "top written as the weight sum plus one"
unfoldable pub top_of : List ℕ → ℕ
top_of table = sum (row_count table) (λ i. (row_of table i).weight) + 1

-- the literal on the variable with bit v, with a space in front, where the set has one
unfoldable pub spaced_literal : ℕ → Lits → List ℕ
spaced_literal v l = cond (has l.positive v) (space ∷ number_text (suc v)) (cond (has l.negative v) (space ∷ minus ∷ number_text (suc v)) [])

-- those on n variables from bit v on
unfoldable pub spaced_lits : ℕ → ℕ → Lits → List ℕ
spaced_lits v zero l = []
spaced_lits v (suc n) l = spaced_literal v l ++ spaced_lits (suc v) n l

-- "a line for each clause with weight, literals and a closing 0"; "writes hard rows with top"
unfoldable pub clause_text : ℕ → Row → List ℕ
clause_text top row = number_text (cond (is_hard row) top row.weight) ++ (spaced_lits 0 most_variables row.lits ++ bytes " 0\n")

unfoldable pub clauses_text : ℕ → List ℕ → ℕ → List ℕ
clauses_text top table zero = []
clauses_text top table (suc k) = clauses_text top table k ++ clause_text top (row_of table k)

-- "`p wcnf variables clauses top`"
unfoldable pub wcnf_text : ℕ → List ℕ → List ℕ
wcnf_text variables table =
    bytes "p wcnf " ++ (number_text variables ++ (space ∷ (number_text (row_count table) ++ (space ∷ (number_text (top_of table)
    ++ (line_feed ∷ clauses_text (top_of table) table (row_count table)))))))

-- Writer: 1, 2, rows, 7, 4.
abbrev pub wcnf_write_why : ℕ → List ℕ → List ℕ → Judged
wcnf_write_why variables table out = text_why (table_why variables table) (wcnf_text variables table) out

abbrev pub wcnf_written : ℕ → List ℕ → List ℕ → Result ℕ Refusal
wcnf_written variables table out = text_written (table_why variables table) (wcnf_text variables table) out

-- the lent bytes afterwards
abbrev pub wcnf_out : ℕ → List ℕ → List ℕ → List ℕ
wcnf_out variables table out = text_out (table_why variables table) (wcnf_text variables table) out
