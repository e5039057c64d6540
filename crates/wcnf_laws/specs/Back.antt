-- "Our writer's output reads back to the same admissible table": what is said of the text that is written of a table.
use Rattle.std.specs.Prelude.{ℕ, ◌<◌, ◌≤◌, ◌≡◌, List, ◌++◌, length, drop, take, Ok, Err}
use Rattle.rules.specs.declared.Refusal.TheVariants.{NoRoom}
use Rattle.rules.specs.Table.{most_rows, row_count}
use Rattle.rules.specs.Wcnf.{top_of, wcnf_text, wcnf_written, wcnf_out}
use Rattle.rules.specs.WcnfReader.{header_of, wcnf_read_why, wcnf_words, wcnf_read, wcnf_table, file_says, header_says}

pub record ReadBack (variables : ℕ) (table : List ℕ) : Type 0 where
  -- its first line is the header, with top as it is written
  pub next : ℕ
  pub header : header_of (wcnf_text variables table) ≡ Ok (header_says variables (row_count table) (top_of table) next 1)
  pub words : wcnf_words (wcnf_text variables table) ≡ table
  -- it is read exactly where there is room for the table's words
  pub fine : (room : ℕ) → length table ≤ room → wcnf_read_why most_rows (wcnf_text variables table) room ≡ Ok tt
  pub tight : (room : ℕ) → room < length table → wcnf_read_why most_rows (wcnf_text variables table) room ≡ Err NoRoom
  pub answer : (room : ℕ) → length table ≤ room → wcnf_read most_rows (wcnf_text variables table) room ≡ Ok (file_says variables (row_count table))
  -- and they are put in front of the rest of the lent words
  pub lent : (found : List ℕ) → length table ≤ length found → wcnf_table most_rows (wcnf_text variables table) found ≡ table ++ drop (length table) found

-- of the bytes that an accepted writer leaves, the first ones, as many as it says, are read back
pub record Returns (variables : ℕ) (table out : List ℕ) : Type 0 where
  pub count : ℕ
  pub written : wcnf_written variables table out ≡ Ok count
  pub answer : (room : ℕ) → length table ≤ room
      → wcnf_read most_rows (take count (wcnf_out variables table out)) room ≡ Ok (file_says variables (row_count table))
  pub lent : (found : List ℕ) → length table ≤ length found
      → wcnf_table most_rows (take count (wcnf_out variables table out)) found ≡ table ++ drop (length table) found
