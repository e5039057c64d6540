-- How the clauses' lines are judged: those of the form one by one, by 5; then that all is at its end, or the line that is none of the form.
use Rattle.std.specs.Prelude.{Ok, Err}
use Prim.Native.Nat.{ℕ, zero, suc, ◌+◌, ◌≤◌}
use mathlib.Core.Path.{◌≡◌, refl, sym, ap, ◌∙◌}
use mathlib.Core.List.{List, [], ◌∷◌}
use native.Mathlib.Omega.{arith}
use borrow.Author.Tests.{eq-eqb, ne_eqb}
use lib.IntN.{ℤ}
use lib.ListN.{length, drop, take, length-drop, drop_of_length-le}
use Rattle.rules.specs.declared.Refusal.TheVariants.{BadText, BadLiterals}
use Rattle.rules.specs.Refusals.{Judged, refuse}
use Rattle.rules.specs.WcnfReader.{on_clause, bad_members, clauses_why}
use Rattle.text_laws.specs.Lines.{Line, ended, missing, first_line, first_lines}
use Rattle.text_laws.proofs.Cuts.{missing-is}
use Rattle.wcnf_laws.specs.Form.{ClauseLine, clause_bytes, lines_text, Each, ClauseHeld, numbers_of, clauses_said}
use Rattle.wcnf_laws.specs.Order.{faults_first}
use Rattle.wcnf_laws.proofs.ClauseLines.{clause-no-feed, clause-read}
use Rattle.wcnf_laws.proofs.RestLines.{Here, here, here-tail, lines-front, clause-here, ClauseShape, read, unread, clause-shape}

-- nothing is left where the line is missing
pub at-end : (s : List ℕ) (at : ℕ) → first_line (drop at s) ≡ missing → (drop at s ≡ []) × (length s ≤ at)
at-end s at e =
    let none : drop at s ≡ [] = missing-is (drop at s) e in
    (none, omega (arith, sym (length-drop at s) ∙ ap length none))

first_of : (n : ℕ) (t : List ℕ) (lines : List ClauseLine) → first_lines (suc n) t ≡ first_lines (suc n) (lines_text lines)
    → first_line t ≡ first_line (lines_text lines)
unfolding first_lines
first_of n t lines e = cc

no_text : [] ≡ lines_text []
unfolding lines_text
no_text = refl

no_line : first_line (lines_text []) ≡ missing
unfolding first_line lines_text
no_line = refl

-- the first line of what is alike is the first clause's
pub first-here : (s : List ℕ) (at n : ℕ) (c : ClauseLine) (cs : List ClauseLine) → first_lines (suc n) (drop at s) ≡ first_lines (suc n) (lines_text (c ∷ cs))
    → Here s at (clause_bytes c) (at + length (clause_bytes c) + 1)
unfolding lines_text
first-here s at n c cs e = here s at n (clause_bytes c) (lines_text cs) (clause-no-feed c) e

pub tail-alike : (s : List ℕ) (at next n : ℕ) (c : ClauseLine) (cs : List ClauseLine) → Here s at (clause_bytes c) next
    → first_lines (suc n) (drop at s) ≡ first_lines (suc n) (lines_text (c ∷ cs)) → first_lines n (drop next s) ≡ first_lines n (lines_text cs)
unfolding lines_text
tail-alike s at next n c cs h e = here-tail s at next (clause_bytes c) (clause-no-feed c) h n (lines_text cs) e

module _ (variables : ℕ) (s : List ℕ) where
  -- one clause of the form in front
  pub one-judged : (m i at line : ℕ) (c : ClauseLine) → ClauseHeld c → Here s at (clause_bytes c) (at + length (clause_bytes c) + 1)
      → clauses_why (suc m) i variables s at line
      ≡ refuse (bad_members variables (numbers_of c.literals)) (BadLiterals i)
      (clauses_why m (suc i) variables s (at + length (clause_bytes c) + 1) (line + 1))
  unfolding clauses_why
  one-judged m i at line c held h = clause-read s at c held h.stand h.feed _ _

  none_left : (i at line : ℕ) → at ≡ length s → clauses_why 0 i variables s at line ≡ Ok tt
  unfolding clauses_why
  none_left i at line e = rw (eq-eqb at (length s) e)

  some_left : (i at line : ℕ) → (at ≡ length s → ⊥) → clauses_why 0 i variables s at line ≡ Err (BadText line)
  unfolding clauses_why
  some_left i at line e = rw (ne_eqb at (length s) e)

  unread-judged : (m i at line : ℕ) → ((broken : Judged) (go : ℕ → List ℤ → ℕ → Judged) → on_clause s at broken go ≡ broken)
      → clauses_why (suc m) i variables s at line ≡ Err (BadText line)
  unfolding clauses_why
  unread-judged m i at line h = h _ _

  pub ends-judged : (lines : List ClauseLine) (i at line : ℕ) → Each ClauseHeld lines → at ≤ length s
      → ((n : ℕ) → first_lines n (drop at s) ≡ first_lines n (lines_text lines))
      → clauses_why (length lines) i variables s at line ≡ faults_first i variables (clauses_said lines) (Ok tt)
  unfolding faults_first clauses_said
  ends-judged [] i at line held l alike = none_left i at line (omega (arith, (at-end s at (first_of 0 (drop at s) [] (alike 1) ∙ no_line)).1))
  ends-judged (c ∷ cs) i at line held l alike =
      let h = first-here s at 0 c cs (alike 1) in
      let next = at + length (clause_bytes c) + 1 in
      one-judged (length cs) i at line c held.0 h
      ∙ ap (λ (j : Judged). refuse (bad_members variables (numbers_of c.literals)) (BadLiterals i) j)
      (ends-judged cs (suc i) next (line + 1) held.1 h.inside (λ n. tail-alike s at next n c cs h (alike (suc n))))

  -- no lines of the form are alike with one line more
  abbrev NoneAlike : ℕ → ℕ → ℕ → Type 0
  NoneAlike m at n = (other : List ClauseLine) → length other ≡ m → Each ClauseHeld other → first_lines n (drop at s) ≡ first_lines n (lines_text other) → ⊥

  left_over : (at : ℕ) → NoneAlike 0 at 1 → at ≡ length s → ⊥
  unfolding lines_text
  left_over at none e =
      let past : length s ≤ at = omega arith in
      none [] refl tt (ap (first_lines 1) (drop_of_length-le s past))

  unread-line : (m i at line : ℕ) (cs : List ClauseLine) → length cs ≡ m → Each ClauseHeld cs → NoneAlike (suc m) at 1 → ClauseShape s at
      → clauses_why (suc m) i variables s at line ≡ Err (BadText line)
  unfolding first_lines
  unread-line m i at line cs long held none (unread e h) = unread-judged m i at line e
  unread-line m i at line cs long held none (read w ms next f) =
      absurd (none (f.line ∷ cs) (ap suc long) (f.held, held) ((clause-here s at w ms next f).lines 0 ∙ sym (lines-front 0 f.line cs)))

  pub breaks-judged : (j : ℕ) (lines : List ClauseLine) (i at line : ℕ) → Each ClauseHeld lines → at ≤ length s
      → first_lines j (drop at s) ≡ first_lines j (lines_text lines) → NoneAlike (length lines) at (suc j)
      → clauses_why (length lines) i variables s at line ≡ faults_first i variables (clauses_said (take j lines)) (Err (BadText (line + j)))
  unfolding faults_first clauses_said
  breaks-judged zero [] i at line held l alike none =
      some_left i at line (left_over at none) ∙ ap (λ (k : ℕ). Err (BadText k)) (omega arith)
  breaks-judged zero (c ∷ cs) i at line held l alike none =
      unread-line (length cs) i at line cs refl held.1 none (clause-shape s at) ∙ ap (λ (k : ℕ). Err (BadText k)) (omega arith)
  breaks-judged (suc j) [] i at line held l alike none =
      let end = at-end s at (first_of j (drop at s) [] alike ∙ no_line) in
      absurd (none [] refl tt (ap (first_lines (suc (suc j))) (end.0 ∙ no_text)))
  breaks-judged (suc j) (c ∷ cs) i at line held l alike none =
      let h = first-here s at j c cs alike in
      let next = at + length (clause_bytes c) + 1 in
      let far : line + 1 + j ≡ line + suc j = omega arith in
      let after = breaks-judged j cs (suc i) next (line + 1) held.1 h.inside (tail-alike s at next j c cs h alike)
      (λ other long each e.
      none (c ∷ other) (ap suc long) (held.0, each)
      (h.lines (suc j) ∙ ap (λ (x : List Line). ended (clause_bytes c) ∷ x) e ∙ sym (lines-front (suc j) c other))) in
      one-judged (length cs) i at line c held.0 h
      ∙ ap (λ (k : Judged). refuse (bad_members variables (numbers_of c.literals)) (BadLiterals i) k)
      (after ∙ ap (λ (k : ℕ). faults_first (suc i) variables (clauses_said (take j cs)) (Err (BadText k))) far)
