-- Refusals exactly when. Lines that the text begins with are read in turn, so a clause with a fault is refused whatever follows it; and among the clauses
-- of a text that is read there is a first with a fault, or none.
use Rattle.std.specs.Prelude.{Ok, Err}
use Prim.Native.Nat.{ℕ, zero, suc, ◌+◌, ◌-◌, ◌*◌, ◌≤◌}
use mathlib.Core.Path.{◌≡◌, refl, sym, ap, subst, ◌∙◌}
use mathlib.Core.Logic.{◌⊎◌, inl, inr, ⊎_elim}
use mathlib.Core.Bool.{Bool, true, false}
use mathlib.Core.List.{List, [], ◌∷◌, ◌++◌}
use native.Mathlib.Omega.{arith}
use borrow.Author.Tests.{ltb-false}
use lib.Dec.{ltb}
use lib.ListN.{length, drop, take, length-append, take-append-drop}
use lib.Seq.{take_at, length-take-le}
use Rattle.masks.proofs.Choice.{impossible, clash, not_so}
use Rattle.rules.proofs.Judging.{refuse-fine}
use Rattle.rules.specs.declared.Refusal.{Refusal}
use Rattle.rules.specs.declared.Refusal.TheVariants.{TooManyVariables, BadTable, NoRoom, BadLiterals, BadText}
use Rattle.rules.specs.Refusals.{Judged, refuse}
use Rattle.literals.specs.Literal.{most_variables}
use Rattle.rules.specs.Table.{row_words}
use Rattle.rules.specs.WcnfReader.{bad_members, clauses_why, wcnf_read_why}
use Rattle.text_laws.specs.Lines.{Line, ended, first_lines, NoFeed}
use Rattle.text_laws.proofs.Cuts.{fewer-lines}
use Rattle.wcnf_laws.specs.Form.{ClauseLine, clause_bytes, HeaderLine, Form, lines_text, form_text, Each}
use Rattle.wcnf_laws.specs.Form.{ClauseHeld, HeaderHeld, Held, FirstBroken, numbers_of, clauses_said}
use Rattle.wcnf_laws.specs.Order.{faults_first, Shape, whole, headless, cut}
use Rattle.wcnf_laws.specs.Given.{figures_first}
use Rattle.wcnf_laws.specs.Members.{Above, BothWays}
use Rattle.wcnf_laws.specs.Given.{Begins, Faultless, NoneDue, Given, no_header, figures, no_clause, bad_clause, fine, Exactly}
use Rattle.wcnf_laws.proofs.RestLines.{lines-front, blank, blank-long, blank-held}
use Rattle.wcnf_laws.proofs.RestJudged.{first-here, tail-alike, one-judged}
use Rattle.wcnf_laws.proofs.Shapes.{shape_of}
use Rattle.wcnf_laws.proofs.Orders.{Passed, alike-passed, passed-alike, behind-header, whole-passed}
use Rattle.wcnf_laws.proofs.Orders.{whole-judged, headless-judged, cut-judged, turn-free, first-line}
use Rattle.wcnf_laws.proofs.Faults.{bad-found, above-bad, both-bad}
use Rattle.wcnf_laws.proofs.Ends.{ends-early, goes_on}

-- ---- lines in front of lines

-- as many lines as there are in front are those
front-lines : (before more : List ClauseLine) → first_lines (length before) (lines_text (before ++ more)) ≡ first_lines (length before) (lines_text before)
unfolding first_lines
front-lines [] more = refl
front-lines (c ∷ cs) more =
    lines-front (length cs) c (cs ++ more) ∙ ap (λ (x : List Line). ended (clause_bytes c) ∷ x) (front-lines cs more) ∙ sym (lines-front (length cs) c cs)

each-front : (before more : List ClauseLine) → Each ClauseHeld (before ++ more) → Each ClauseHeld before
each-front [] more h = tt
each-front (c ∷ cs) more h = (h.0, each-front cs more h.1)

each_both : (before more : List ClauseLine) → Each ClauseHeld before → Each ClauseHeld more → Each ClauseHeld (before ++ more)
each_both [] more p q = q
each_both (c ∷ cs) more p q = (p.0, each_both cs more p.1 q)

-- what is judged of them first, and then what is judged of those behind
faults-behind : (before : List ClauseLine) (c : ClauseLine) (i variables : ℕ) (after : Judged)
    → faults_first i variables (clauses_said (before ++ (c ∷ []))) after
    ≡ faults_first i variables (clauses_said before)
    (refuse (bad_members variables (numbers_of c.literals)) (BadLiterals (i + length before)) after)
unfolding faults_first clauses_said
faults-behind [] c i variables after =
    let here : i ≡ i + 0 = omega arith in
    ap (λ (k : ℕ). refuse (bad_members variables (numbers_of c.literals)) (BadLiterals k) after) here
faults-behind (d ∷ ds) c i variables after =
    let near : suc i + length ds ≡ i + suc (length ds) = omega arith in
    ap (λ (j : Judged). refuse (bad_members variables (numbers_of d.literals)) (BadLiterals i) j)
    (faults-behind ds c (suc i) variables after
    ∙ ap (λ (k : ℕ). faults_first (suc i) variables (clauses_said ds)
    (refuse (bad_members variables (numbers_of c.literals)) (BadLiterals k) after)) near)

-- ---- read in turn

record Turned (variables : ℕ) (s : List ℕ) (m i at line : ℕ) (lines : List ClauseLine) : Type 0 where
  pub after : Judged
  pub why : clauses_why m i variables s at line ≡ faults_first i variables (clauses_said lines) after

turned : (variables : ℕ) (s : List ℕ) (lines : List ClauseLine) (m i at line : ℕ) → Each ClauseHeld lines → length lines ≤ m
    → first_lines (length lines) (drop at s) ≡ first_lines (length lines) (lines_text lines) → Turned variables s m i at line lines
unfolding faults_first clauses_said
turned variables s [] m i at line held few alike = record { after = clauses_why m i variables s at line; why = refl }
turned variables s (c ∷ cs) zero i at line held few alike = absurd (omega arith)
turned variables s (c ∷ cs) (suc m) i at line held few alike =
    let h = first-here s at (length cs) c cs alike in
    let next = at + length (clause_bytes c) + 1 in
    let rest = turned variables s cs m (suc i) next (line + 1) held.1 (omega arith) (tail-alike s at next (length cs) c cs h alike) in
    record {
      after = rest.after;
      why =
          one-judged variables s m i at line c held.0 h
          ∙ ap (λ (j : Judged). refuse (bad_members variables (numbers_of c.literals)) (BadLiterals i) j)
          rest.why;
    }

-- ---- how a text begins

module _ (s : List ℕ) (cs : List (List ℕ)) (h : HeaderLine) (lines : List ClauseLine) where
  begins-passed : Begins s cs h lines
      → (p : Passed s 0 cs h) × (first_lines (length lines) (drop p.next s) ≡ first_lines (length lines) (lines_text lines))
  begins-passed b = alike-passed s cs h (length lines) (lines_text lines) b.free b.header b.alike

  passed-begins : Each NoFeed cs → HeaderHeld h → Each ClauseHeld lines → length lines ≤ h.clauses → (p : Passed s 0 cs h)
      → first_lines (length lines) (drop p.next s) ≡ first_lines (length lines) (lines_text lines) → Begins s cs h lines
  passed-begins free header each few p e =
      record { free = free; header = header; each = each; few = few; alike = passed-alike s cs h (length lines) (lines_text lines) p e }

-- ---- nothing else is said

-- where the figures are refused, it is so whatever follows
figures-refused : (most room : ℕ) (h : HeaderLine) (r : Refusal) (after : Judged) → figures_first most room h (Ok tt) ≡ Err r
    → figures_first most room h after ≡ Err r
figures-refused most room h r after e = go (ltb most_variables h.variables) (ltb most h.clauses) (ltb room (row_words * h.clauses)) e
  where
    go : (a b c : Bool) → refuse a TooManyVariables (refuse b BadTable (refuse c NoRoom (Ok tt))) ≡ Err r
        → refuse a TooManyVariables (refuse b BadTable (refuse c NoRoom after)) ≡ Err r
    go true b c q = q
    go false true c q = q
    go false false true q = q
    go false false false q = impossible (cc)

-- ---- a clause without a fault, by its members and by the tests

few-variables : (most room : ℕ) (h : HeaderLine) → figures_first most room h (Ok tt) ≡ Ok tt → h.variables ≤ most_variables
few-variables most room h e = ltb-false most_variables h.variables (refuse-fine (ltb most_variables h.variables) TooManyVariables _ e).0

not-bad : (h : HeaderLine) (c : ClauseLine) → (Above h.variables (numbers_of c.literals) → ⊥) → (BothWays (numbers_of c.literals) → ⊥)
    → bad_members h.variables (numbers_of c.literals) ≡ false
not-bad h c p q = not_so (λ t. ⊎_elim p q (bad-found h.variables (numbers_of c.literals) t))

is-bad : (h : HeaderLine) (c : ClauseLine) → h.variables ≤ most_variables
    → Above h.variables (numbers_of c.literals) ⊎ BothWays (numbers_of c.literals) → bad_members h.variables (numbers_of c.literals) ≡ true
is-bad h c few x = ⊎_elim (above-bad h.variables (numbers_of c.literals)) (both-bad h.variables (numbers_of c.literals) few) x

is-faultless : (h : HeaderLine) (c : ClauseLine) → h.variables ≤ most_variables → bad_members h.variables (numbers_of c.literals) ≡ false
    → Faultless h c
is-faultless h c few p =
    record {
      none_above = λ x. clash (is-bad h c few (inl x)) p;
      one_way = λ x. clash (is-bad h c few (inr x)) p;
    }

none-faulted : (h : HeaderLine) (lines : List ClauseLine) (i : ℕ) → Each (Faultless h) lines
    → faults_first i h.variables (clauses_said lines) (Ok tt) ≡ Ok tt
unfolding faults_first clauses_said
none-faulted h [] i each = refl
none-faulted h (c ∷ cs) i each =
    rw (not-bad h c each.0.none_above each.0.one_way) (none-faulted h cs (suc i) each.1)

none-due : (most room : ℕ) (h : HeaderLine) (lines : List ClauseLine) → NoneDue most room h lines
    → figures_first most room h (faults_first 0 h.variables (clauses_said lines) (Ok tt)) ≡ Ok tt
none-due most room h lines n = ap (figures_first most room h) (none-faulted h lines 0 n.clauses) ∙ n.figures

module _ (s : List ℕ) (most room : ℕ) (cs : List (List ℕ)) (h : HeaderLine) where
  -- what is judged of the lines that it begins with, and then something
  in-turn : (lines : List ClauseLine) → Begins s cs h lines
      → (after : Judged) × (wcnf_read_why most s room ≡ figures_first most room h (faults_first 0 h.variables (clauses_said lines) after))
  in-turn lines b =
      let w = begins-passed s cs h lines b in
      let t = turned h.variables s lines h.clauses 0 w.0.next (1 + length cs + 1) b.each b.few w.1 in
      (t.after, behind-header s most room cs h w.0 _ t.why)

  -- the clause behind faultless ones
  at-clause : (before : List ClauseLine) (c : ClauseLine) → Begins s cs h (before ++ (c ∷ [])) → NoneDue most room h before
      → (after : Judged) × (wcnf_read_why most s room
      ≡ refuse (bad_members h.variables (numbers_of c.literals)) (BadLiterals (length before)) after)
  at-clause before c b none =
      let w = in-turn (before ++ (c ∷ [])) b in
      let here : 0 + length before ≡ length before = omega arith in (
        w.0,
        w.1
            ∙ ap (figures_first most room h) (faults-behind before c 0 h.variables w.0)
            ∙ (turn-free most room h (clauses_said before) (Ok tt) _ (none-due most room h before none)).1
            ∙ ap (λ (k : ℕ). refuse (bad_members h.variables (numbers_of c.literals)) (BadLiterals k) w.0) here,
      )

  -- lines that are not there yet, to make the form whole
  made_up : List ClauseLine → List ClauseLine
  made_up before = before ++ blank (h.clauses - length before)

  at-line : (before : List ClauseLine) → Begins s cs h before → NoneDue most room h before → FirstBroken s (length cs + (length before + 2))
      → wcnf_read_why most s room ≡ Err (BadText (length cs + (length before + 2)))
  unfolding made_up form_text
  at-line before b none broken =
      let w = begins-passed s cs h before b in
      let j = length before in
      let few = b.few in
      let rest = h.clauses - j in
      let lines = made_up before in
      let f : Form = record { comments = cs; header = h; lines = lines } in
      let held : Held f =
      record {
        comments = b.free;
        header = b.header;
        lines = each_both before (blank rest) b.each (blank-held rest);
        whole = length-append before (blank rest) ∙ omega (arith, blank-long rest);
      } in
      let alike : first_lines (length cs + (j + 1)) s ≡ first_lines (length cs + (j + 1)) (form_text f) =
      passed-alike s cs h j (lines_text lines) w.0 (w.1 ∙ sym (front-lines before (blank rest))) in
      let taken : take j lines ≡ before = take_at before (blank rest) j refl in
      cut-judged s most room f held j alike broken
      ∙ ap (λ (x : List ClauseLine). figures_first most room h
      (faults_first 0 h.variables (clauses_said x) (Err (BadText (length cs + (j + 2)))))) taken
      ∙ (turn-free most room h (clauses_said before) (Ok tt) _ (none-due most room h before none)).1

nothing-else : (s : List ℕ) (most room : ℕ) (why : Judged) → Given s most room why → wcnf_read_why most s room ≡ why
nothing-else s most room why (no_header cs each alike b) = headless-judged s most room cs each alike b
nothing-else s most room why (figures cs h b r e) = (in-turn s most room cs h [] b).1 ∙ figures-refused most room h r _ e
nothing-else s most room why (no_clause cs h before b none broken) = at-line s most room cs h before b none broken
nothing-else s most room why (bad_clause cs h before c b none bad) =
    (at-clause s most room cs h before c b none).1 ∙ rw (is-bad h c (few-variables most room h none.figures) bad)
nothing-else s most room why (fine f held is none) = whole-judged s most room f held is ∙ none-due most room f.header f.lines none

-- ---- and one of them is

-- the first clause with a fault
data FirstFault (h : HeaderLine) (lines : List ClauseLine) : Type 0 where
  faultless : Each (Faultless h) lines → FirstFault h lines
  badly : (before : List ClauseLine) (c : ClauseLine) (behind : List ClauseLine) → lines ≡ (before ++ (c ∷ [])) ++ behind → Each (Faultless h) before
      → bad_members h.variables (numbers_of c.literals) ≡ true → FirstFault h lines

fault-behind : (h : HeaderLine) (d : ClauseLine) (ds : List ClauseLine) → Faultless h d → FirstFault h ds → FirstFault h (d ∷ ds)
fault-behind h d ds p (faultless each) = faultless (p, each)
fault-behind h d ds p (badly before c behind is each x) = badly (d ∷ before) c behind (ap (λ (l : List ClauseLine). d ∷ l) is) (p, each) x

first-fault : (h : HeaderLine) → h.variables ≤ most_variables → (lines : List ClauseLine) → FirstFault h lines
first-fault h few [] = faultless tt
first-fault h few (c ∷ cs) = go (bad_members h.variables (numbers_of c.literals)) refl (first-fault h few cs)
  where
    go : (a : Bool) → bad_members h.variables (numbers_of c.literals) ≡ a → FirstFault h cs → FirstFault h (c ∷ cs)
    go true p ih = badly [] c cs refl tt p
    go false p ih = fault-behind h c cs (is-faultless h c few p) ih

-- a text that begins with lines begins with those in front
begins-front : (s : List ℕ) (cs : List (List ℕ)) (h : HeaderLine) (front more : List ClauseLine) → Begins s cs h (front ++ more) → Begins s cs h front
begins-front s cs h front more b =
    let w = begins-passed s cs h (front ++ more) b in
    let long = length-append front more in
    let all = w.1 in
    let some : length front ≤ length (front ++ more) = omega arith in
    passed-begins s cs h front b.free b.header (each-front front more b.each) (omega (arith, b.few)) w.0
    (fewer-lines (length front) (length (front ++ more)) (drop w.0.next s) (lines_text (front ++ more)) some all ∙ front-lines front more)

abbrev IsGiven : List ℕ → ℕ → ℕ → Type 0
IsGiven s most room = (why : Judged) × Given s most room why

module _ (s : List ℕ) (most room : ℕ) (cs : List (List ℕ)) (h : HeaderLine) (lines : List ClauseLine) (b : Begins s cs h lines)
    (end : NoneDue most room h lines → IsGiven s most room) where
  by-fault : figures_first most room h (Ok tt) ≡ Ok tt → FirstFault h lines → IsGiven s most room
  by-fault free (faultless each) = end (record { figures = free; clauses = each })
  by-fault free (badly before c behind is each bad) =
      let front = begins-front s cs h (before ++ (c ∷ [])) behind (subst (Begins s cs h) is b) in
      let none : NoneDue most room h before = record { figures = free; clauses = each } in
      (Err (BadLiterals (length before)), bad_clause cs h before c front none (bad-found h.variables (numbers_of c.literals) bad))

  by-figures : (j : Judged) → figures_first most room h (Ok tt) ≡ j → IsGiven s most room
  by-figures (Ok _) e = by-fault e (first-fault h (few-variables most room h e) lines)
  by-figures (Err r) e = (Err r, figures cs h (begins-front s cs h [] lines b) r e)

some-given : (s : List ℕ) (most room : ℕ) → Shape s → IsGiven s most room
unfolding form_text
some-given s most room (headless cs each alike broken) = (Err (BadText (length cs + 1)), no_header cs each alike broken)
some-given s most room (whole f held is) =
    let cs = f.comments in
    let h = f.header in
    let w = whole-passed s f held is in
    let long : length f.lines ≤ h.clauses = omega (arith, held.whole) in
    let b = passed-begins s cs h f.lines held.comments held.header held.lines long w.0 (w.1 (length f.lines)) in
    by-figures s most room cs h f.lines b (λ none. (Ok tt, fine f held is none)) (figures_first most room h (Ok tt)) refl
some-given s most room (cut f held j few alike broken) =
    let cs = f.comments in
    let h = f.header in
    let front = take j f.lines in
    let behind = drop j f.lines in
    let w = alike-passed s cs h j (lines_text f.lines) held.comments held.header alike in
    let all : front ++ behind ≡ f.lines = take-append-drop j f.lines in
    let count : j ≡ length front = sym (length-take-le j f.lines few) in
    let same : first_lines (length front) (drop w.0.next s) ≡ first_lines (length front) (lines_text (front ++ behind)) =
    subst (λ (n : ℕ). first_lines n (drop w.0.next s) ≡ first_lines n (lines_text (front ++ behind))) count
    (w.1 ∙ ap (λ (x : List ClauseLine). first_lines j (lines_text x)) (sym all)) in
    let b =
    passed-begins s cs h front held.comments held.header (each-front front behind (subst (Each ClauseHeld) (sym all) held.lines))
    (omega (arith, held.whole)) w.0 (same ∙ front-lines front behind) in
    by-figures s most room cs h front b
    (λ none.
    let own = subst (λ (n : ℕ). FirstBroken s (length cs + (n + 2))) count broken in
    (Err (BadText (length cs + (length front + 2))), no_clause cs h front b none own))
    (figures_first most room h (Ok tt)) refl

pub exactly : Exactly wcnf_read_why
exactly =
    record {
      given = λ s most room.
          let w = some-given s most room (shape_of s) in
          subst (Given s most room) (sym (nothing-else s most room w.0 w.1)) w.1;
      nothing_else = nothing-else;
      first_line = first-line;
      ends_early = ends-early;
      nothing_follows = goes_on;
    }
