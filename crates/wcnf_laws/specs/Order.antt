-- Document 02, C-11: "After the header come 1, 2 and 4 by its figures; then line by line 20, 5, [..] place being the clause from 0 for the last".
-- What a text is judged, by its lines alone: a text is of the form, or breaks it at a line first, and that line comes before the header's end or behind it.
use Rattle.std.specs.Prelude.{ℕ, suc, ◌+◌, ◌≤◌, ◌≡◌, List, [], ◌∷◌, ℤ, length, take, Ok, Err}
use Rattle.rules.specs.declared.Refusal.TheVariants.{BadLiterals, BadText}
use Rattle.rules.specs.Refusals.{Judged, ◌when◌, as_in, first_due}
use Rattle.rules.specs.WcnfReader.{bad_members}
use Rattle.text_laws.specs.Lines.{first_lines, NoFeed}
use Rattle.wcnf_laws.specs.Given.{figures_first}
use Rattle.wcnf_laws.specs.Form.{Form, under_comments, form_text, Each, Held, FirstBroken, clauses_said}

-- 5 of the clauses one by one, the first of them clause i; and what is said behind the last
unfoldable pub faults_first : ℕ → ℕ → List (ℕ × List ℤ) → Judged → Judged
faults_first i variables [] after = after
faults_first i variables (c ∷ cs) after = first_due (BadLiterals i when bad_members variables c.1 ∷ as_in (faults_first (suc i) variables cs after) ∷ [])

pub data Shape (s : List ℕ) : Type 0 where
  -- a text of the form
  whole : (f : Form) → Held f → s ≡ form_text f → Shape s
  -- comments, and then no line that is a comment or a header
  headless : (comments : List (List ℕ)) → Each NoFeed comments → first_lines (length comments) s ≡ first_lines (length comments) (under_comments comments [])
      → FirstBroken s (length comments + 1) → Shape s
  -- comments, a header and j clauses, and then no line of the form
  cut : (f : Form) → Held f → (j : ℕ) → j ≤ length f.lines
      → first_lines (length f.comments + (j + 1)) s ≡ first_lines (length f.comments + (j + 1)) (form_text f)
      → FirstBroken s (length f.comments + (j + 2)) → Shape s

abbrev pub judged_by : {s : List ℕ} → Shape s → ℕ → ℕ → Judged
judged_by (whole f held is) most room = figures_first most room f.header (faults_first 0 f.header.variables (clauses_said f.lines) (Ok tt))
judged_by (headless comments free alike broken) most room = Err (BadText (length comments + 1))
judged_by (cut f held j few alike broken) most room =
    figures_first most room f.header
    (faults_first 0 f.header.variables (clauses_said (take j f.lines)) (Err (BadText (length f.comments + (j + 2)))))

-- what is given before the line that breaks the form is judged
abbrev pub due_before : {s : List ℕ} → Shape s → ℕ → ℕ → Judged
due_before (whole f held is) most room = figures_first most room f.header (faults_first 0 f.header.variables (clauses_said f.lines) (Ok tt))
due_before (headless comments free alike broken) most room = Ok tt
due_before (cut f held j few alike broken) most room =
    figures_first most room f.header (faults_first 0 f.header.variables (clauses_said (take j f.lines)) (Ok tt))
