-- What is written out: the table that is read, spelt by the writer; nothing where reader or writer refuses.
use Rattle.std.specs.Prelude.{ℕ, ◌*◌, ◌≤◌, ◌≡◌, List, length, take, Result, Ok, Err}
use Rattle.rules.specs.declared.TextRead.{TextRead}
use Rattle.rules.specs.Table.{row_words, most_rows}
use Rattle.rules.specs.Text.{written, write_out}
use Rattle.rules.specs.Reader.{read_words, text_read}
use Rattle.rules.specs.declared.Refusal.{Refusal}

abbrev pub length_of : Result ℕ Refusal → ℕ
length_of (Ok n) = n
length_of (Err r) = 0

abbrev pub length_by : List ℕ → List ℕ → Result TextRead Refusal → ℕ
length_by table out (Ok said) = length_of (written said.variables said.budget table out)
length_by table out (Err r) = 0

abbrev pub out_by : List ℕ → List ℕ → Result TextRead Refusal → List ℕ
out_by table out (Ok said) = write_out said.variables said.budget table out
out_by table out (Err r) = out

unfoldable pub copy_length : List ℕ → List ℕ → ℕ
copy_length input out = length_by (read_words input) out (text_read most_rows input (row_words * most_rows))

-- the lent bytes afterwards
unfoldable pub copy_out : List ℕ → List ℕ → List ℕ
copy_out input out = out_by (read_words input) out (text_read most_rows input (row_words * most_rows))

-- What a copy is, however it is made: the first bytes, and if there are any they are the text that was read.
pub record Copied (input : List ℕ) (n : ℕ) (output : List ℕ) : Type 0 where
  pub within : n ≤ length output
  pub same : (n ≡ 0 → ⊥) → take n output ≡ input
