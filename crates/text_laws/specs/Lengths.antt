-- The most bytes that each piece of the text can have, from the figures.
use Rattle.std.specs.Prelude.{ℕ, ◌+◌, ◌*◌, length}
use Rattle.literals.specs.Literal.{most_variables}
use Rattle.rules.specs.Text.{most_digits}
use Rattle.text_laws.specs.Keys.{vars_key, budget_key, rows_key, weight_key, hard_key, lits_key}

-- a number and the end of its line
abbrev pub most_number_end : ℕ
most_number_end = most_digits + 1

-- a space, a minus, a number
abbrev pub most_literal : ℕ
most_literal = 2 + most_digits

-- literals on n variables, without and with the end of their line
abbrev pub most_lits : ℕ → ℕ
most_lits n = most_literal * n

abbrev pub most_lits_end : ℕ → ℕ
most_lits_end n = most_lits n + 1

-- the first three lines
abbrev pub most_head : ℕ
most_head = (length vars_key + most_number_end) + ((length budget_key + most_number_end) + (length rows_key + most_number_end))

-- a row's lines
abbrev pub most_row : ℕ
most_row = (length weight_key + most_number_end) + ((length hard_key + most_number_end) + (length lits_key + most_lits_end most_variables))
