-- The pieces that a competition file is written of, as bytes: what the code spells, and what `bytes` makes of the definitions' strings. With the
-- most bytes that each can have.
use Rattle.std.specs.Prelude.{ℕ, ◌+◌, cond, List, [], ◌∷◌, ◌++◌, length}
use Rattle.literals.specs.Literal.{most_variables}
use Rattle.rules.specs.declared.Row.{Row}
use Rattle.rules.specs.Table.{is_hard}
use Rattle.rules.specs.Text.{space, number_text, most_digits}
use Rattle.text_laws.specs.Pieces.{line_text}
use Rattle.text_laws.specs.Lengths.{most_number_end, most_lits}

abbrev pub header_key : List ℕ
header_key = 112 ∷ 32 ∷ 119 ∷ 99 ∷ 110 ∷ 102 ∷ 32 ∷ []

-- "a closing 0"
abbrev pub closing : List ℕ
closing = 32 ∷ 48 ∷ 10 ∷ []

-- the header's line
abbrev pub header_text : ℕ → ℕ → ℕ → List ℕ
header_text variables clauses top = header_key ++ (number_text variables ++ ((space ∷ []) ++ (number_text clauses ++ line_text (space ∷ []) top)))

abbrev pub most_header : ℕ
most_header = length header_key + (most_digits + (1 + (most_digits + (1 + most_number_end))))

-- what stands for a row's weight in its clause
abbrev pub line_weight : ℕ → Row → ℕ
line_weight top row = cond (is_hard row) top row.weight

-- a clause's line
abbrev pub most_clause : ℕ
most_clause = most_digits + (most_lits most_variables + length closing)
