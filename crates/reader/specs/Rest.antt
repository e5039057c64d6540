-- What a text comes to whose first three lines are read, where so many rows are taken at most: the answer, and the lent words.
use Rattle.std.specs.Prelude.{ℕ, List, length, Result, Ok}
use Rattle.std.proofs.lemmas.List.Edits.{sets}
use Rattle.rules.specs.declared.TextRead.{TextRead}
use Rattle.rules.specs.Refusals.{unless_refused}
use Rattle.rules.specs.Reader.{first_row_line, three_lines, rows_at, words_of, head_why, text_read_as}
use Rattle.rules.specs.declared.Refusal.{Refusal}

unfoldable pub read_behind : ℕ → List ℕ → ℕ → ℕ → ℕ → ℕ → ℕ → Result TextRead Refusal
read_behind most s room variables budget m next =
    let head = Ok (three_lines variables budget m next) in
    text_read_as (head_why most s room head) head

unfoldable pub stored_behind : ℕ → List ℕ → List ℕ → ℕ → ℕ → ℕ → ℕ → List ℕ
stored_behind most s table variables budget m next =
    let words = words_of (rows_at m s next first_row_line) in
    unless_refused (head_why most s (length table) (Ok (three_lines variables budget m next))) (sets table 0 words) table
