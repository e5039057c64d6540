-- Where the rows that are left end is where all of them do; and what follows them is judged by their end alone.
use Rattle.std.specs.Prelude.{Ok, Err}
use Prim.Native.Nat.{ℕ, ◌+◌, ◌-◌, ◌*◌, ◌<◌, ◌≤◌}
use mathlib.Core.Path.{◌≡◌, refl, sym, ap, ◌∙◌}
use mathlib.Core.List.{List}
use borrow.Author.Tests.{eq-eqb, ne_eqb}
use lib.ListN.{length}
use Rattle.masks.proofs.Choice.{impossible}
use Rattle.rules.specs.declared.Row.{Row}
use Rattle.rules.specs.declared.Refusal.TheVariants.{BadText}
use Rattle.rules.specs.Table.{row_words_of}
use Rattle.rules.specs.Reader.{first_row_line, row_lines, row_at, RowsRead, rows, broken_at, in_front, rest_why}
use Rattle.text_laws.proofs.Branches.{rows-broken, rows_left, left_one, left-none, left-front}
use Rattle.reader.specs.Ends.{end_of}

end-front : (words : List ℕ) (r : RowsRead) → end_of (in_front words r) ≡ end_of r
end-front words (rows more next) = refl
end-front words (broken_at line) = refl

module _ (s : List ℕ) (m i at : ℕ) where
  pub end-broken : (broken : ℕ) → i < m → row_at s at (first_row_line + row_lines * i) ≡ Err broken → end_of (rows_left s m i at) ≡ Err broken
  end-broken broken h e =
      ap end_of (left_one s m i at h ∙ rows-broken s (m - (i + 1)) at (first_row_line + row_lines * i) broken e)

  pub end-next : (row : Row) (next : ℕ) → i < m → row_at s at (first_row_line + row_lines * i) ≡ Ok (row, next)
      → end_of (rows_left s m i at) ≡ end_of (rows_left s m (i + 1) next)
  end-next row next h e = ap end_of (left-front s m i at row next h e) ∙ end-front (row_words_of row) (rows_left s m (i + 1) next)

  pub end_none : m ≤ i → end_of (rows_left s m i at) ≡ Ok at
  end_none h = ap end_of (left-none s m i at h)

module _ (s : List ℕ) (m : ℕ) where
  pub rest-broken : (r : RowsRead) (line : ℕ) → end_of r ≡ Err line → rest_why s m r ≡ Err (BadText line)
  rest-broken (rows words next) line e = impossible (cc)
  rest-broken (broken_at other) line e = let same : other ≡ line = cc in rw same

  pub rest_ended : (r : RowsRead) (at : ℕ) → end_of r ≡ Ok at → at ≡ length s → rest_why s m r ≡ Ok tt
  rest_ended (rows words next) at e h = let same : next ≡ at = cc in rw (eq-eqb next (length s) (same ∙ h))
  rest_ended (broken_at other) at e h = impossible (cc)

  pub rest-surplus : (r : RowsRead) (at : ℕ) → end_of r ≡ Ok at → (at ≡ length s → ⊥)
      → rest_why s m r ≡ Err (BadText (first_row_line + row_lines * m))
  rest-surplus (rows words next) at e h = let same : next ≡ at = cc in rw (ne_eqb next (length s) (λ p. h (sym same ∙ p)))
  rest-surplus (broken_at other) at e h = impossible (cc)
