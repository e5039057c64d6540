-- The most bytes that an answer and its lines can have, from the figures.
use Rattle.std.specs.Prelude.{ℕ, ◌+◌, length}
use Rattle.text_laws.specs.Keys.{weight_key}
use Rattle.text_laws.specs.Lengths.{most_number_end}
use Rattle.readings.specs.Line.{most_reading_line}
use Rattle.answer_lines.specs.Keys.{stopped_line, impossible_line, nodes_key, conceded_key, lost_key, foreseen_key}

abbrev pub most_status_line : ℕ
most_status_line = length impossible_line

abbrev pub most_weight_line : ℕ
most_weight_line = length weight_key + most_number_end

abbrev pub most_nodes_line : ℕ
most_nodes_line = length nodes_key + most_number_end

abbrev pub most_losses_lines : ℕ
most_losses_lines = (length conceded_key + most_number_end) + ((length lost_key + most_number_end) + (length foreseen_key + most_number_end))

-- the lines of a search with a reading: a refusal's are shorter, and so are those of one that has none
abbrev pub most_answer : ℕ
most_answer = length stopped_line + (most_weight_line + (most_nodes_line + (most_reading_line + most_losses_lines)))
