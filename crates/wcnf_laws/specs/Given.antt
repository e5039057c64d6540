-- Document 02, C-11, refusal by refusal: "A broken, missing or surplus line is 20 with its line. After the header come 1, 2 and 4 by its figures; then line by
-- line 20, 5, [..] place being the clause from 0 for the last"; C-16 "drops 21". Each way in which a text is judged, with all that it needs; of clauses behind
-- the one that is refused nothing is said.
use Rattle.std.specs.Prelude.{ℕ, ◌+◌, ◌*◌, ◌≤◌, ◌<◌, ◌≡◌, ◌⊎◌, List, [], ◌∷◌, ◌++◌, ltb, length, Ok, Err}
use Rattle.literals.specs.Literal.{most_variables}
use Rattle.rules.specs.declared.Refusal.{Refusal}
use Rattle.rules.specs.declared.Refusal.TheVariants.{TooManyVariables, BadTable, NoRoom, BadLiterals, BadText}
use Rattle.rules.specs.Refusals.{Judged, ◌when◌, as_in, first_due}
use Rattle.rules.specs.Table.{row_words}
use Rattle.rules.specs.Text.{line_feed}
use Rattle.text_laws.specs.Lines.{ended, first_lines, line_at, NoFeed}
use Rattle.wcnf_laws.specs.Form.{ClauseLine, HeaderLine, header_bytes, Form, lines_text, under_comments, form_text}
use Rattle.wcnf_laws.specs.Form.{Each, ClauseHeld, HeaderHeld, Held, FirstBroken, numbers_of}
use Rattle.wcnf_laws.specs.Members.{Above, BothWays}

-- 1, 2 and 4 by the header's figures, for a reader of so many rows at most
abbrev pub figures_first : ℕ → ℕ → HeaderLine → Judged → Judged
figures_first most room h after =
    first_due (TooManyVariables when ltb most_variables h.variables ∷ BadTable when ltb most h.clauses
    ∷ NoRoom when ltb room (row_words * h.clauses) ∷ as_in after ∷ [])

-- the text begins with these comments, this header and these clauses
pub record Begins (s : List ℕ) (comments : List (List ℕ)) (h : HeaderLine) (lines : List ClauseLine) : Type 0 where
  pub free : Each NoFeed comments
  pub header : HeaderHeld h
  pub each : Each ClauseHeld lines
  pub few : length lines ≤ h.clauses
  pub alike : first_lines (length comments + (length lines + 1)) s
      ≡ first_lines (length comments + (length lines + 1)) (under_comments comments (header_bytes h ++ (line_feed ∷ lines_text lines)))

-- 5 is not due: no member above the count, no variable both ways
pub record Faultless (h : HeaderLine) (c : ClauseLine) : Type 0 where
  pub none_above : Above h.variables (numbers_of c.literals) → ⊥
  pub one_way : BothWays (numbers_of c.literals) → ⊥

-- neither 1, 2 or 4 by the figures, nor 5 by these clauses
pub record NoneDue (most room : ℕ) (h : HeaderLine) (lines : List ClauseLine) : Type 0 where
  pub figures : figures_first most room h (Ok tt) ≡ Ok tt
  pub clauses : Each (Faultless h) lines

pub data Given (s : List ℕ) (most room : ℕ) : Judged → Type 0 where
  -- 20: behind the comments no header
  no_header : (comments : List (List ℕ)) → Each NoFeed comments → first_lines (length comments) s ≡ first_lines (length comments) (under_comments comments [])
      → FirstBroken s (length comments + 1) → Given s most room (Err (BadText (length comments + 1)))
  -- 1, 2, 4
  figures : (comments : List (List ℕ)) (h : HeaderLine) → Begins s comments h [] → (r : Refusal) → figures_first most room h (Ok tt) ≡ Err r
      → Given s most room (Err r)
  -- 20: behind these clauses no line of the form
  no_clause : (comments : List (List ℕ)) (h : HeaderLine) (before : List ClauseLine) → Begins s comments h before → NoneDue most room h before
      → FirstBroken s (length comments + (length before + 2)) → Given s most room (Err (BadText (length comments + (length before + 2))))
  -- 5
  bad_clause : (comments : List (List ℕ)) (h : HeaderLine) (before : List ClauseLine) (c : ClauseLine) → Begins s comments h (before ++ (c ∷ []))
      → NoneDue most room h before → Above h.variables (numbers_of c.literals) ⊎ BothWays (numbers_of c.literals)
      → Given s most room (Err (BadLiterals (length before)))
  -- none
  fine : (f : Form) → Held f → s ≡ form_text f → NoneDue most room f.header f.lines → Given s most room (Ok tt)

-- what the reader says, exactly when
pub record Exactly (why : ℕ → List ℕ → ℕ → Judged) : Type 0 where
  pub given : (s : List ℕ) (most room : ℕ) → Given s most room (why most s room)
  pub nothing_else : (s : List ℕ) (most room : ℕ) (j : Judged) → Given s most room j → why most s room ≡ j
  -- "A broken .. line is 20 with its line", a "missing" one, a "surplus" one
  pub first_line : (s : List ℕ) (most room k : ℕ) → why most s room ≡ Err (BadText k) → FirstBroken s k
  pub ends_early : (s more : List ℕ) (f : Form) → Held f → s ++ more ≡ form_text f → (k : ℕ) → FirstBroken s k → (c : List ℕ) → line_at k s ≡ ended c → ⊥
  pub nothing_follows : (f : Form) (more : List ℕ) → Held f → 0 < length more
      → FirstBroken (form_text f ++ more) (length f.comments + (f.header.clauses + 2))
