-- The file as it is stored: the header's line, then a line more for each clause; and no piece is longer than its digits and signs allow.
use Prim.Native.Nat.{ℕ, zero, suc, ◌+◌, ◌*◌, ◌≤◌}
use mathlib.Core.Path.{◌≡◌, refl, sym, ap, ◌∙◌}
use mathlib.Core.List.{List, [], ◌∷◌, ◌++◌, append_assoc}
use native.Mathlib.Numerals.{add-one}
use native.Mathlib.Omega.{arith}
use lib.ListN.{length, length-append}
use Rattle.literals.specs.Literal.{most_variables}
use Rattle.rules.specs.declared.Row.{Row}
use Rattle.rules.specs.Table.{row_count, row_of}
use Rattle.rules.specs.Text.{bytes, number_text, space, line_feed}
use Rattle.rules.specs.Wcnf.{top_of, spaced_lits, clause_text, clauses_text, wcnf_text}
use Rattle.text_laws.specs.Pieces.{line_text}
use Rattle.text_laws.proofs.Pieces.{number-length, line-length}
use Rattle.spaced_written.proofs.Pieces.{spaced-length}
use Rattle.wcnf_writer.specs.Pieces.{header_key, closing, header_text, line_weight, most_header, most_clause}

-- ---- clauses

pub clause-is : (top : ℕ) (row : Row) → clause_text top row ≡ number_text (line_weight top row) ++ (spaced_lits 0 most_variables row.lits ++ closing)
unfolding clause_text bytes
clause-is top row = refl

pub clause-length : (top : ℕ) (row : Row) → length (clause_text top row) ≤ most_clause
clause-length top row =
    let lits = spaced_lits 0 most_variables row.lits in
    rw (clause-is top row, length-append (number_text (line_weight top row)) (lits ++ closing), length-append lits closing)
    (omega (arith, number-length (line_weight top row), spaced-length most_variables row.lits))

pub clauses-none : (top : ℕ) (table : List ℕ) → clauses_text top table 0 ≡ []
unfolding clauses_text
clauses-none top table = refl

pub clauses-step : (top : ℕ) (table : List ℕ) (i : ℕ) → clauses_text top table (i + 1) ≡ clauses_text top table i ++ clause_text top (row_of table i)
unfolding clauses_text
clauses-step top table i = rw add-one

pub clauses-length : (top : ℕ) (table : List ℕ) (m : ℕ) → length (clauses_text top table m) ≤ most_clause * m
clauses-length top table zero = rw (clauses-none top table) (omega arith)
clauses-length top table (suc m) =
    let before = clauses_text top table m in
    let more = clause_text top (row_of table m) in
    let e : clauses_text top table (suc m) ≡ before ++ more = ap (clauses_text top table) (sym (add-one m)) ∙ clauses-step top table m in
    rw (e, length-append before more) (omega (arith, clauses-length top table m, clause-length top (row_of table m)))

-- ---- the header, and the whole

pub header-length : (n m t : ℕ) → length (header_text n m t) ≤ most_header
header-length n m t =
    let top = line_text (space ∷ []) t in
    rw (length-append (number_text n) (space ∷ (number_text m ++ top)), length-append (number_text m) top)
    (omega (arith, number-length n, number-length m, line-length (space ∷ []) t))

pub file-is : (n : ℕ) (table : List ℕ) → wcnf_text n table ≡ header_text n (row_count table) (top_of table) ++ clauses_text (top_of table) table (row_count table)
unfolding wcnf_text bytes line_text
file-is n table =
    let m = row_count table in
    let body = clauses_text (top_of table) table m in
    let top = number_text (top_of table) in
    let end = top ++ (line_feed ∷ []) in
    sym
    (ap (λ (x : List ℕ). header_key ++ x) (append_assoc (number_text n) (space ∷ (number_text m ++ (space ∷ end))) body
    ∙ ap (λ (x : List ℕ). number_text n ++ (space ∷ x)) (append_assoc (number_text m) (space ∷ end) body
    ∙ ap (λ (x : List ℕ). number_text m ++ (space ∷ x)) (append_assoc top (line_feed ∷ []) body))))
