-- The table of a text of the form, row by row: row i is hard or has the weight of clause i, and has a bit exactly for each of its members.
use Prim.Native.Nat.{ℕ, suc, ◌*◌, ◌^◌, ◌<◌}
use mathlib.Core.Path.{◌≡◌, refl, sym, ap, subst, ◌∙◌}
use mathlib.Core.Bool.{Bool, true, false, cond}
use mathlib.Core.List.{List, [], ◌∷◌, ◌++◌, Memᴰ}
use native.Mathlib.Omega.{arith}
use borrow.Author.Tests.{le-leb, lt-leb}
use lib.Dec.{leb}
use lib.IntN.{ℤ, pos, negsuc}
use lib.ListN.{length, length-append}
use Rattle.masks.specs.Masks.{has}
use Rattle.literals.specs.declared.Lits.{Lits}
use Rattle.literals.specs.Literal.{most_variables}
use Rattle.rules.specs.declared.Row.{Row}
use Rattle.rules.specs.Table.{row_words, row_of, row_words_of, new_row, hard_row}
use Rattle.rules.specs.WcnfReader.{lits_of_members, clause_row, wcnf_words}
use Rattle.text_laws.proofs.RowWords.{row_words_lem}
use Rattle.text_laws.proofs.Rows.{first-row, later-row}
use Rattle.wcnf_laws.specs.Form.{ClauseLine, Form, form_text, Held, numbers_of, clauses_said}
use Rattle.wcnf_laws.specs.Rows.{RowSays, TableSays}
use Rattle.wcnf_laws.proofs.Members.{words_of_clauses}
use Rattle.wcnf_laws.proofs.Literals.{members-held}
use Rattle.wcnf_laws.proofs.Faults.{positive-in, positive-out, negative-in, negative-out}
use Rattle.wcnf_laws.proofs.Says.{form-words}

-- hard or not, the literals are the same
row-lits : (top w : ℕ) (l : Lits) → (clause_row top w l).lits ≡ l
row-lits top w l = go (leb top w)
  where
    go : (b : Bool) → (cond b (hard_row l) (new_row l w)).lits ≡ l
    go true = refl
    go false = refl

row-says : (top w : ℕ) (ls : List ℤ) → RowSays (clause_row top w (lits_of_members ls)) top w ls
row-says top w ls =
    let same = sym (row-lits top w (lits_of_members ls)) in
    record {
      soft = λ h. rw (lt-leb top w h) (refl, refl);
      hard = λ h. rw (le-leb top w h) (refl, refl);
      positive-bits = subst (λ (l : Lits). l.positive < 2 ^ most_variables) same (members-held ls).positives;
      negative-bits = subst (λ (l : Lits). l.negative < 2 ^ most_variables) same (members-held ls).negatives;
      positive = λ v. subst (λ (l : Lits). has l.positive v ≡ true → Memᴰ (pos (suc v)) ls) same (positive-out ls v);
      each-positive = λ v small m. subst (λ (l : Lits). has l.positive v ≡ true) same (positive-in ls v small m);
      negative = λ v. subst (λ (l : Lits). has l.negative v ≡ true → Memᴰ (negsuc v) ls) same (negative-out ls v);
      each-negative = λ v small m. subst (λ (l : Lits). has l.negative v ≡ true) same (negative-in ls v small m);
    }

-- the row of a line
abbrev row_of_line : ℕ → ClauseLine → Row
row_of_line top c = clause_row top c.weight (lits_of_members (numbers_of c.literals))

row_at : (top : ℕ) (before : List ClauseLine) (c : ClauseLine) (behind : List ClauseLine)
    → row_of (words_of_clauses top (clauses_said (before ++ (c ∷ behind)))) (length before) ≡ row_of_line top c
unfolding clauses_said words_of_clauses
row_at top [] c behind = first-row (row_of_line top c) (words_of_clauses top (clauses_said behind))
row_at top (d ∷ ds) c behind =
    later-row (row_of_line top d) (words_of_clauses top (clauses_said (ds ++ (c ∷ behind)))) (length ds) ∙ row_at top ds c behind

words_long : (top : ℕ) (lines : List ClauseLine) → length (words_of_clauses top (clauses_said lines)) ≡ row_words * length lines
unfolding clauses_said words_of_clauses
words_long top [] = refl
words_long top (c ∷ cs) =
    length-append (row_words_of (row_of_line top c)) (words_of_clauses top (clauses_said cs)) ∙ rw (row_words_lem (row_of_line top c), words_long top cs) (omega arith)

pub table-says : (f : Form) → Held f → TableSays (wcnf_words (form_text f)) f
table-says f held =
    let top = f.header.top in
    let words = form-words (form_text f) f held refl in
    record {
      long = ap length words ∙ words_long top f.lines ∙ ap (λ (m : ℕ). row_words * m) held.whole;
      rows = λ before c behind is.
          subst (λ (row : Row). RowSays row top c.weight (numbers_of c.literals))
          (sym (ap (λ (x : List ℕ). row_of x (length before)) words
          ∙ ap (λ (x : List ClauseLine). row_of (words_of_clauses top (clauses_said x)) (length before)) is
          ∙ row_at top before c behind))
          (row-says top c.weight (numbers_of c.literals));
    }
