-- A missing line and a surplus one: a text that ends early is faulted at the line that is missing or unended, and whatever follows the last clause is
-- faulted at the line behind it.
use Prim.Native.Nat.{ℕ, zero, suc, ◌+◌, ◌<◌}
use mathlib.Core.Path.{◌≡◌, refl, sym, ap, subst, ◌∙◌}
use mathlib.Core.List.{List, [], ◌∷◌, ◌++◌, append_assoc}
use native.Mathlib.Omega.{arith}
use lib.ListN.{length, drop}
use Rattle.masks.proofs.Choice.{impossible}
use Rattle.rules.specs.Text.{line_feed}
use Rattle.text_laws.specs.Lines.{Line, ended, missing, first_line, past_line, first_lines, line_at, NoFeed}
use Rattle.text_laws.proofs.Cuts.{lines-ended, past-ended, missing-is, lines_more}
use Rattle.wcnf_laws.specs.Form.{ClauseLine, clause_bytes, HeaderLine, header_bytes, comment_bytes, Form, lines_text, under_comments, form_text}
use Rattle.wcnf_laws.specs.Form.{Each, ClauseHeld, HeaderHeld, Held, FirstBroken}
use Rattle.wcnf_laws.proofs.ClauseLines.{clause-no-feed}
use Rattle.wcnf_laws.proofs.HeaderLines.{header-no-feed}
use Rattle.wcnf_laws.proofs.CommentLines.{comment-no-feed}
use Rattle.wcnf_laws.proofs.RestLines.{Here, here, lines-front, RestBroken}
use Rattle.wcnf_laws.proofs.Shapes.{form_of, comment-then, header-then}

-- a line that is ended, of a text that goes on to one of the form, is in the form
pub ends-early : (s more : List ℕ) (f : Form) → Held f → s ++ more ≡ form_text f → (k : ℕ) → FirstBroken s k → (bytes : List ℕ) → line_at k s ≡ ended bytes → ⊥
unfolding line_at
ends-early s more f held e zero broken bytes q = impossible (cc)
ends-early s more f held e (suc k) broken bytes q =
    broken.breaks (record { form = f; held = held; alike = sym (lines_more k s more bytes q) ∙ ap (first_lines (suc k)) e })

-- ---- what follows the last clause

rest-goes-on : (lines : List ClauseLine) (more : List ℕ) → Each ClauseHeld lines → 0 < length more
    → RestBroken (length lines) (lines_text lines ++ more) (length lines)
unfolding lines_text first_lines first_line
rest-goes-on [] more held some =
    record { lines = []; long = refl; few = omega arith; held = tt; alike = refl; none = none_of }
  where
    none_of : (other : List ClauseLine) → length other ≡ 0 → Each ClauseHeld other → first_lines 1 more ≡ first_lines 1 (lines_text other) → ⊥
    none_of (c ∷ cs) long each q = omega (arith, long)
    none_of [] long each q =
        let line : first_line more ≡ missing = cc in
        omega (arith, ap length (missing-is more line))
rest-goes-on (c ∷ cs) more held some =
    let b = rest-goes-on cs more held.1 some in
    record {
      lines = c ∷ b.lines;
      long = ap suc b.long;
      few = omega (arith, b.few);
      held = (held.0, b.held);
      alike = mine (length cs) ∙ ap (λ (x : List Line). ended (clause_bytes c) ∷ x) b.alike ∙ sym (lines-front (length cs) c b.lines);
      none = λ other long each q. none_of other long each q b.none;
    }
  where
    mine : (k : ℕ) → first_lines (suc k) (lines_text (c ∷ cs) ++ more) ≡ ended (clause_bytes c) ∷ first_lines k (lines_text cs ++ more)
    mine k =
        ap (first_lines (suc k)) (append_assoc (clause_bytes c) (line_feed ∷ lines_text cs) more)
        ∙ lines-ended k (clause_bytes c) (lines_text cs ++ more) (clause-no-feed c)

    none_of : (other : List ClauseLine) → length other ≡ suc (length cs) → Each ClauseHeld other
        → first_lines (suc (suc (length cs))) (lines_text (c ∷ cs) ++ more) ≡ first_lines (suc (suc (length cs))) (lines_text other)
        → ((rest : List ClauseLine) → length rest ≡ length cs → Each ClauseHeld rest
        → first_lines (suc (length cs)) (lines_text cs ++ more) ≡ first_lines (suc (length cs)) (lines_text rest) → ⊥) → ⊥
    none_of [] long each q ih = omega (arith, long)
    none_of (d ∷ ds) long each q ih =
        let first = lines-front (suc (length cs)) d ds in
        let own = mine (suc (length cs)) in
        let rest : first_lines (suc (length cs)) (lines_text cs ++ more) ≡ first_lines (suc (length cs)) (lines_text ds) = cc in
        ih ds (omega (arith, long)) each.1 rest

-- a text by its first line
first-line-of : (c r : List ℕ) → NoFeed c → (next : ℕ) × Here (c ++ (line_feed ∷ r)) 0 c next × (drop next (c ++ (line_feed ∷ r)) ≡ r)
first-line-of c r free =
    let s : List ℕ = c ++ (line_feed ∷ r) in
    let a = here s 0 0 c r free refl in
    let next = 0 + length c + 1 in
    (next, a, sym (past-ended c (drop next s) free) ∙ ap past_line (sym a.cut) ∙ past-ended c r free)

more-behind : (cs : List (List ℕ)) (h : HeaderLine) (rest more : List ℕ) → form_of cs h rest ++ more ≡ form_of cs h (rest ++ more)
unfolding under_comments
more-behind [] h rest more = append_assoc (header_bytes h) (line_feed ∷ rest) more
more-behind (c ∷ cs) h rest more =
    append_assoc (comment_bytes c) (line_feed ∷ form_of cs h rest) more
    ∙ ap (λ (x : List ℕ). comment_bytes c ++ (line_feed ∷ x)) (more-behind cs h rest more)

broken-under : (cs : List (List ℕ)) (h : HeaderLine) (rest : List ℕ) (j : ℕ) → Each NoFeed cs → HeaderHeld h → RestBroken h.clauses rest j
    → FirstBroken (form_of cs h rest) (length cs + (j + 2))
unfolding under_comments
broken-under [] h rest j each held b =
    let w = first-line-of (header_bytes h) rest (header-no-feed h) in
    let two : suc (suc j) ≡ 0 + (j + 2) = omega arith in
    subst (FirstBroken (header_bytes h ++ (line_feed ∷ rest))) two
    (header-then (header_bytes h ++ (line_feed ∷ rest)) 0 h w.0 held w.1 j
    (subst (λ (t : List ℕ). RestBroken h.clauses t j) (sym w.2) b))
broken-under (c ∷ cs) h rest j each held b =
    let t = form_of cs h rest in
    let w = first-line-of (comment_bytes c) t (comment-no-feed c each.0) in
    let one : suc (length cs + (j + 2)) ≡ suc (length cs) + (j + 2) = omega arith in
    subst (FirstBroken (comment_bytes c ++ (line_feed ∷ t))) one
    (comment-then (comment_bytes c ++ (line_feed ∷ t)) 0 c w.0 each.0 w.1 (length cs + (j + 2))
    (subst (λ (x : List ℕ). FirstBroken x (length cs + (j + 2))) (sym w.2) (broken-under cs h rest j each.1 held b)))

pub goes_on : (f : Form) (more : List ℕ) → Held f → 0 < length more → FirstBroken (form_text f ++ more) (length f.comments + (f.header.clauses + 2))
unfolding form_text
goes_on f more held some =
    let h = f.header in
    let rest = lines_text f.lines in
    let b = rest-goes-on f.lines more held.lines some in
    let count = held.whole in
    subst (λ (t : List ℕ). FirstBroken t (length f.comments + (h.clauses + 2))) (sym (more-behind f.comments h rest more))
    (broken-under f.comments h (rest ++ more) h.clauses held.comments held.header
    (subst (λ (m : ℕ). RestBroken m (rest ++ more) m) count b))
