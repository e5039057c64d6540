-- Document 02, C-11: what is promised of competition files. The form, what is given exactly when, and the rows that a text makes are those of
-- crates/wcnf_laws/specs; no word of this is the reader's own, so that its definition need not be believed.
use Rattle.std.specs.Prelude.{ℕ, ◌≤◌, ◌≡◌, List, ◌++◌, length, drop, Ok}
use Rattle.rules.specs.Refusals.{Judged}
use Rattle.rules.specs.Table.{most_rows, row_count, table_why}
use Rattle.rules.specs.Wcnf.{wcnf_text, wcnf_written, wcnf_out}
use Rattle.rules.specs.WcnfReader.{wcnf_read, wcnf_table, file_says}
use Rattle.wcnf_laws.specs.Form.{Form, Held, form_text}
use Rattle.wcnf_laws.specs.Given.{Exactly}
use Rattle.wcnf_laws.specs.Rows.{Laid}
use Rattle.wcnf_laws.specs.Same.{DifferOnly}
use Rattle.telling.specs.Told.{by_wcnf_read}

-- what a reader of so many rows at most judges of a text, given room for so many words
abbrev pub reader_why : ℕ → List ℕ → ℕ → Judged
reader_why most s room = by_wcnf_read (wcnf_read most s room)

pub record Competition : Type 0 where
  -- "our writer's output reads back to the same admissible table"
  pub writes : (n : ℕ) (table out : List ℕ) → table_why n table ≡ Ok tt → length (wcnf_text n table) ≤ length out
      → (wcnf_written n table out ≡ Ok (length (wcnf_text n table)))
      × (wcnf_out n table out ≡ wcnf_text n table ++ drop (length (wcnf_text n table)) out)
  pub reads_back : (n : ℕ) (table lent : List ℕ) → table_why n table ≡ Ok tt → length table ≤ length lent
      → (wcnf_read most_rows (wcnf_text n table) (length lent) ≡ Ok (file_says n (row_count table)))
      × (wcnf_table most_rows (wcnf_text n table) lent ≡ table ++ drop (length table) lent)
  -- "A broken, missing or surplus line is 20 with its line. After the header come 1, 2 and 4 by its figures; then line by line 20, 5, 21";
  -- C-16: "drops 21"
  pub exactly : Exactly reader_why
  -- "Literals come in any order; one given twice counts once."
  pub makes : (most : ℕ) (f : Form) (lent : List ℕ) → Held f → reader_why most (form_text f) (length lent) ≡ Ok tt
      → (wcnf_read most (form_text f) (length lent) ≡ Ok (file_says f.header.variables f.header.clauses)) × Laid f lent (wcnf_table most (form_text f) lent)
  -- "two accepted texts which differ only in comments, literal order or repeats give the same table"
  pub same : (most : ℕ) (f g : Form) (lent : List ℕ) → Held f → Held g → DifferOnly f g → reader_why most (form_text f) (length lent) ≡ Ok tt
      → reader_why most (form_text g) (length lent) ≡ Ok tt → wcnf_table most (form_text f) lent ≡ wcnf_table most (form_text g) lent
