-- The pieces that the text is written of: lines, and what one more variable adds to a line of literals.
use Rattle.std.specs.Prelude.{ℕ, ◌+◌, List, [], ◌∷◌, ◌++◌, Bool, cond}
use Rattle.masks.specs.Masks.{has}
use Rattle.literals.specs.declared.Lits.{Lits}
use Rattle.literals.specs.Literal.{most_variables}
use Rattle.rules.specs.Text.{line_feed, space, minus, number_text, lits_text}
use Rattle.text_laws.specs.Keys.{vars_key, budget_key, rows_key, lits_key}

-- a line of a key and a number
unfoldable pub line_text : List ℕ → ℕ → List ℕ
line_text key n = key ++ (number_text n ++ (line_feed ∷ []))

-- a line of a key and the literals on n variables; a row's
abbrev pub list_line : List ℕ → ℕ → Lits → List ℕ
list_line key n l = key ++ (lits_text n l ++ (line_feed ∷ []))

abbrev pub list_text : Lits → List ℕ
list_text l = list_line lits_key most_variables l

-- the first three lines
abbrev pub head_lines : ℕ → ℕ → ℕ → List ℕ
head_lines variables budget rows = line_text vars_key variables ++ (line_text budget_key budget ++ line_text rows_key rows)

-- nothing before the first literal of a line, else a space
unfoldable pub parting : Bool → List ℕ
parting first = cond first [] (space ∷ [])

-- the literal on the variable with bit v, where the set has one
unfoldable pub literal_piece : Bool → ℕ → Lits → List ℕ
literal_piece first v l =
    cond (has l.positive v) (parting first ++ number_text (v + 1))
    (cond (has l.negative v) (parting first ++ (minus ∷ number_text (v + 1))) [])
