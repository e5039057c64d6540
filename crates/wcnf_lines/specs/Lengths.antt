-- The most bytes that an answer to a competition file and its lines can have, from the figures.
use Rattle.std.specs.Prelude.{ℕ, ◌+◌, length}
use Rattle.literals.specs.Literal.{most_variables}
use Rattle.text_laws.specs.Lengths.{most_number_end, most_lits_end}
use Rattle.wcnf_lines.specs.Keys.{found_line, nodes_key, weight_key, values_key}

abbrev pub most_nodes_line : ℕ
most_nodes_line = length nodes_key + most_number_end

abbrev pub most_weight_line : ℕ
most_weight_line = length weight_key + most_number_end

abbrev pub most_statement_line : ℕ
most_statement_line = length found_line

abbrev pub most_values_line : ℕ
most_values_line = length values_key + most_lits_end most_variables

-- a search's lines: a refusal's are shorter
abbrev pub most_answer : ℕ
most_answer = most_nodes_line + (most_weight_line + (most_statement_line + most_values_line))
