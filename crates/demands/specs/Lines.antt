-- Document 01, "The text" and "Order", of the reader, by the lines of a text: what it says, exactly when. A text's lines, the form and the first line that
-- breaks it are those of crates/text_laws/specs/Lines.antt; no word here is the reader's own, so that its definition need not be believed.
use Rattle.std.specs.Prelude.{ℕ, ◌+◌, ◌*◌, ◌≤◌, ◌<◌, ◌≡◌, List, ◌++◌, length, drop, Ok, Err}
use Rattle.rules.specs.declared.Refusal.{Refusal}
use Rattle.rules.specs.declared.Refusal.TheVariants.{BadText}
use Rattle.rules.specs.Refusals.{Judged, first_due}
use Rattle.rules.specs.Table.{row_count}
use Rattle.rules.specs.Text.{table_text}
use Rattle.rules.specs.Reader.{text_read, read_table, text_says}
use Rattle.rules.specs.Text.{figures_order}
use Rattle.text_laws.specs.Lines.{ended, line_at, Held, InForm, FirstBroken}
use Rattle.telling.specs.Told.{by_text_read}

-- what the figures that the first three lines say are judged by a reader of so many rows at most: 1, 9, 2, 4
abbrev pub figures_why : ℕ → ℕ → {text : List ℕ} → InForm text 3 → Judged
figures_why most room f = first_due (figures_order most room f.variables f.budget (row_count f.table))

-- "Reader: first three lines (20), 1, 9, 2, 4, the rest (20)"; "20: text breaks its form; place = line"
pub data Reads (text : List ℕ) (most room : ℕ) : Judged → Type 0 where
  head : (k : ℕ) → k ≤ 3 → FirstBroken text k → Reads text most room (Err (BadText k))
  figures : (f : InForm text 3) (r : Refusal) → figures_why most room f ≡ Err r → Reads text most room (Err r)
  rest : (f : InForm text 3) → figures_why most room f ≡ Ok tt → (k : ℕ) → 3 < k → FirstBroken text k → Reads text most room (Err (BadText k))
  whole : (variables budget : ℕ) (table : List ℕ) → Held variables budget table → text ≡ table_text variables budget table
      → first_due (figures_order most room variables budget (row_count table)) ≡ Ok tt → Reads text most room (Ok tt)

pub record ByLines : Type 0 where
  -- "The first line that breaks the form is the place, counted from 1"
  pub reads : (text : List ℕ) (most room : ℕ) → Reads text most room (by_text_read (text_read most text room))
  pub nothing_else : (text : List ℕ) (most room : ℕ) (why : Judged) → Reads text most room why → by_text_read (text_read most text room) ≡ why
  -- "text that ends early is faulted at the line that is missing or unended"
  pub ends_early : (text more : List ℕ) (variables budget : ℕ) (table : List ℕ) → Held variables budget table
      → text ++ more ≡ table_text variables budget table → (k : ℕ) → FirstBroken text k → (bytes : List ℕ) → line_at k text ≡ ended bytes → ⊥
  -- "Nothing follows the last row."
  pub nothing_follows : (variables budget : ℕ) (table more : List ℕ) → Held variables budget table → 0 < length more
      → FirstBroken (table_text variables budget table ++ more) (4 + 3 * row_count table)
  -- "it judges neither weights nor literals against the count": whatever the form holds is read, within the limits of its figures
  pub reads_held : (most variables budget : ℕ) (table lent : List ℕ) → Held variables budget table
      → first_due (figures_order most (length lent) variables budget (row_count table)) ≡ Ok tt
      → (text_read most (table_text variables budget table) (length lent) ≡ Ok (text_says variables budget (row_count table)))
      × (read_table most (table_text variables budget table) lent ≡ table ++ drop (length table) lent)
