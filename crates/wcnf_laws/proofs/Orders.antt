-- The reader's judgement is that of the text's shape: comments and header are read where they are of the form, the figures are judged, then the clauses one
-- by one; and the place of a refusal 20 is the first line that breaks the form.
use Rattle.std.specs.Prelude.{Ok, Err}
use Prim.Native.Nat.{ℕ, zero, suc, ◌+◌, ◌*◌, ◌<◌, ◌≤◌}
use mathlib.Core.Path.{◌≡◌, refl, sym, ap, subst, ◌∙◌}
use mathlib.Core.Logic.{⊎_elim}
use mathlib.Core.Bool.{Bool, true, false}
use mathlib.Core.List.{List, [], ◌∷◌, ◌++◌}
use native.Mathlib.Omega.{arith}
use lib.Dec.{ltb}
use lib.IntN.{ℤ}
use lib.ListN.{length, drop, take}
use Rattle.masks.proofs.Choice.{impossible, not_so, lt-or-le}
use Rattle.literals.specs.Literal.{most_variables}
use Rattle.rules.specs.declared.Refusal.TheVariants.{TooManyVariables, BadTable, NoRoom, BadLiterals, BadText}
use Rattle.rules.specs.Refusals.{Judged, refuse}
use Rattle.rules.proofs.Judging.{refuse-fine}
use Rattle.rules.specs.Table.{row_words}
use Rattle.rules.specs.Text.{line_feed}
use Rattle.rules.specs.Reader.{stands}
use Rattle.rules.specs.WcnfReader.{bad_members, header_from, header_of, clauses_why, wcnf_read_why, header_says}
use Rattle.text_laws.specs.Lines.{first_lines, NoFeed}
use Rattle.text_laws.proofs.Cuts.{fewer-lines}
use Rattle.wcnf_laws.specs.Form.{HeaderLine, header_bytes, comment_bytes, Form, lines_text, under_comments, form_text}
use Rattle.wcnf_laws.specs.Form.{Each, HeaderHeld, Held, FirstBroken, clauses_said}
use Rattle.wcnf_laws.specs.Order.{faults_first, Shape, whole, headless, cut, judged_by, due_before}
use Rattle.wcnf_laws.specs.Given.{figures_first}
use Rattle.wcnf_laws.proofs.HeaderLines.{header-front, header-no-feed, header_read}
use Rattle.wcnf_laws.proofs.CommentLines.{begins, comment-no-feed, comment-read, no-comment}
use Rattle.wcnf_laws.proofs.RestLines.{Here, here, here-tail, here-front, blank, blank-long, blank-held}
use Rattle.wcnf_laws.proofs.RestJudged.{ends-judged, breaks-judged}
use Rattle.wcnf_laws.proofs.Shapes.{form, form_of, begins-front, comment-back, HeadShape, comment, header, neither, head-shape}
use Rattle.wcnf_laws.proofs.Shapes.{comment-in, header-in, none_yet, shape_of}

-- so many lines behind the comments
abbrev pub under : List (List ℕ) → ℕ → ℕ
under [] n = n
under (c ∷ cs) n = suc (under cs n)

pub under-is : (cs : List (List ℕ)) (n : ℕ) → under cs n ≡ length cs + n
under-is [] n = omega arith
under-is (c ∷ cs) n = ap suc (under-is cs n) ∙ omega arith

no_lines : (s t : List ℕ) → first_lines 0 s ≡ first_lines 0 t
unfolding first_lines
no_lines s t = refl

-- comments and a header are read, where the text has these lines
pub record Passed (s : List ℕ) (at : ℕ) (cs : List (List ℕ)) (h : HeaderLine) : Type 0 where
  pub next : ℕ
  pub inside : next ≤ length s
  pub few : at + length cs < next
  pub reads : (k line : ℕ) → length cs < k → header_from k s at line ≡ Ok (header_says h.variables h.clauses h.top next (line + length cs))
  pub down : (n : ℕ) (rest : List ℕ) → first_lines (under cs (suc n)) (drop at s) ≡ first_lines (under cs (suc n)) (form_of cs h rest)
      → first_lines n (drop next s) ≡ first_lines n rest
  pub up : (n : ℕ) (rest : List ℕ) → first_lines n (drop next s) ≡ first_lines n rest
      → first_lines (under cs (suc n)) (drop at s) ≡ first_lines (under cs (suc n)) (form_of cs h rest)

no-c : (s : List ℕ) (at : ℕ) (h : HeaderLine) → stands s at (header_bytes h) ≡ true → begins s at ≡ false
no-c s at h e = not_so (λ b. omega (arith, begins-front s at b, header-front s at h e))

pub passed : (cs : List (List ℕ)) (h : HeaderLine) (s : List ℕ) (at : ℕ) (rest : List ℕ) → Each NoFeed cs → HeaderHeld h
    → first_lines (under cs 1) (drop at s) ≡ first_lines (under cs 1) (form_of cs h rest) → Passed s at cs h
unfolding under_comments
passed [] h s at rest each held e =
    let a = here s at 0 (header_bytes h) rest (header-no-feed h) e in
    let next = at + length (header_bytes h) + 1 in
    record {
      next = next;
      inside = a.inside;
      few = omega arith;
      reads = λ k line l. reads k line l a;
      down = λ n r q. here-tail s at next (header_bytes h) (header-no-feed h) a n r q;
      up = λ n r q. here-front s at next (header_bytes h) (header-no-feed h) a n r q;
    }
  where
    reads : (k line : ℕ) → 0 < k → Here s at (header_bytes h) (at + length (header_bytes h) + 1)
        → header_from k s at line ≡ Ok (header_says h.variables h.clauses h.top (at + length (header_bytes h) + 1) (line + 0))
    reads zero line l a = absurd (omega arith)
    reads (suc k) line l a =
        no-comment k s at line (no-c s at h a.stand) ∙ header_read s at line h held a.stand a.feed
        ∙ ap (λ line. Ok (header_says h.variables h.clauses h.top (at + length (header_bytes h) + 1) line)) (omega arith)
passed (c ∷ cs) h s at rest each held e =
    let free = each.0 in
    let next = at + length (comment_bytes c) + 1 in
    let end = under cs 0 in
    let a = first s at c cs rest free e in
    let p = passed cs h s next rest each.1 held (here-tail s at next (comment_bytes c) (comment-no-feed c free) a (under cs 1) (form_of cs h rest) e) in
    record {
      next = p.next;
      inside = p.inside;
      few = omega (arith, p.few);
      reads = λ k line l. reads k line l a p;
      down = λ n r q. p.down n r (here-tail s at next (comment_bytes c) (comment-no-feed c free) a (under cs (suc n)) (form_of cs h r) q);
      up = λ n r q. here-front s at next (comment_bytes c) (comment-no-feed c free) a (under cs (suc n)) (form_of cs h r) (p.up n r q);
    }
  where
    first : (s : List ℕ) (at : ℕ) (c : List ℕ) (cs : List (List ℕ)) (rest : List ℕ) → NoFeed c
        → first_lines (suc (under cs 1)) (drop at s) ≡ first_lines (suc (under cs 1)) (comment_bytes c ++ (line_feed ∷ form_of cs h rest))
        → Here s at (comment_bytes c) (at + length (comment_bytes c) + 1)
    first s at c cs rest free q = here s at (under cs 1) (comment_bytes c) (form_of cs h rest) (comment-no-feed c free) q

    reads : (k line : ℕ) → suc (length cs) < k → Here s at (comment_bytes c) (at + length (comment_bytes c) + 1)
        → (p : Passed s (at + length (comment_bytes c) + 1) cs h)
        → header_from k s at line ≡ Ok (header_says h.variables h.clauses h.top p.next (line + suc (length cs)))
    reads zero line l a p = absurd (omega arith)
    reads (suc k) line l a p =
        comment-read k s at line c each.0 a.stand a.feed ∙ p.reads k (line + 1) (omega arith)
        ∙ ap (λ line. Ok (header_says h.variables h.clauses h.top p.next line)) (omega arith)

-- n lines more that are alike are so behind the header
lines-under : (cs : List (List ℕ)) (n : ℕ) → length cs + (n + 1) ≡ under cs (suc n)
lines-under cs n = omega (arith, under-is cs (suc n))

module _ (s : List ℕ) (cs : List (List ℕ)) (h : HeaderLine) (n : ℕ) (rest : List ℕ) where
  abbrev Alike : Type 0
  Alike = first_lines (length cs + (n + 1)) s ≡ first_lines (length cs + (n + 1)) (form_of cs h rest)

  pub alike-passed : Each NoFeed cs → HeaderHeld h → Alike → (p : Passed s 0 cs h) × (first_lines n (drop p.next s) ≡ first_lines n rest)
  alike-passed free held e =
      let all : first_lines (under cs (suc n)) s ≡ first_lines (under cs (suc n)) (form_of cs h rest) =
      subst (λ (k : ℕ). first_lines k s ≡ first_lines k (form_of cs h rest)) (lines-under cs n) e in
      let more : under cs 1 ≤ under cs (suc n) = omega (arith, under-is cs 1, under-is cs (suc n)) in
      let p = passed cs h s 0 rest free held (fewer-lines (under cs 1) (under cs (suc n)) s (form_of cs h rest) more all) in
      (p, p.down n rest all)

  pub passed-alike : (p : Passed s 0 cs h) → first_lines n (drop p.next s) ≡ first_lines n rest → Alike
  passed-alike p e = subst (λ (k : ℕ). first_lines k s ≡ first_lines k (form_of cs h rest)) (sym (lines-under cs n)) (p.up n rest e)

-- ---- a text of the form

pub headed : (s : List ℕ) (cs : List (List ℕ)) (h : HeaderLine) → (p : Passed s 0 cs h)
    → header_of s ≡ Ok (header_says h.variables h.clauses h.top p.next (1 + length cs))
unfolding header_of
headed s cs h p = p.reads (suc (length s)) 1 (omega (arith, p.few, p.inside))

-- what is judged behind the header
pub behind-header : (s : List ℕ) (most room : ℕ) (cs : List (List ℕ)) (h : HeaderLine) → (p : Passed s 0 cs h) → (after : Judged)
    → clauses_why h.clauses 0 h.variables s p.next (1 + length cs + 1) ≡ after → wcnf_read_why most s room ≡ figures_first most room h after
unfolding wcnf_read_why
behind-header s most room cs h p after e = rw (headed s cs h p) (ap (figures_first most room h) e)

-- what is passed of it, and that the rest is alike to any line
pub whole-passed : (s : List ℕ) (f : Form) → Held f → s ≡ form_text f
    → (p : Passed s 0 f.comments f.header) × ((n : ℕ) → first_lines n (drop p.next s) ≡ first_lines n (lines_text f.lines))
unfolding form_text
whole-passed s f held is =
    let cs = f.comments in
    let rest = lines_text f.lines in
    let p = passed cs f.header s 0 rest held.comments held.header (ap (first_lines (under cs 1)) is) in
    (p, λ n. p.down n rest (ap (first_lines (under cs (suc n))) is))

pub whole-judged : (s : List ℕ) (most room : ℕ) (f : Form) → Held f → s ≡ form_text f
    → wcnf_read_why most s room ≡ figures_first most room f.header (faults_first 0 f.header.variables (clauses_said f.lines) (Ok tt))
whole-judged s most room f held is =
    let cs = f.comments in
    let h = f.header in
    let w = whole-passed s f held is in
    let p = w.0 in
    behind-header s most room cs h p _
    (ap (λ (m : ℕ). clauses_why m 0 h.variables s p.next (1 + length cs + 1)) (sym held.whole)
    ∙ ends-judged h.variables s f.lines 0 p.next (1 + length cs + 1) held.lines p.inside w.1)

-- ---- no header

headless-reads : (cs : List (List ℕ)) (k : ℕ) (s : List ℕ) (at line : ℕ) → Each NoFeed cs
    → first_lines (length cs) (drop at s) ≡ first_lines (length cs) (under_comments cs []) → FirstBroken (drop at s) (under cs 1)
    → at ≤ length s → length s < at + k → header_from k s at line ≡ Err (line + length cs)
unfolding under_comments
headless-reads cs zero s at line each alike b l far = absurd (omega arith)
headless-reads [] (suc k) s at line each alike b l far = go (head-shape k s at line l)
  where
    go : HeadShape k s at line → header_from (suc k) s at line ≡ Err (line + 0)
    go (comment c next free a far e) = absurd (b.breaks (comment-in s at c next free a 0 (none_yet (drop next s))))
    go (header h next held a) =
        absurd (b.breaks (header-in s at h next held a 0 (blank h.clauses) (blank-long h.clauses) (blank-held h.clauses) (no_lines (drop next s) _)))
    go (neither n e) = e ∙ ap Err (omega arith)
headless-reads (c ∷ cs) (suc k) s at line each alike b l far =
    let free = each.0 in
    let next = at + length (comment_bytes c) + 1 in
    let a = here s at (length cs) (comment_bytes c) (under_comments cs []) (comment-no-feed c free) alike in
    comment-read k s at line c free a.stand a.feed
    ∙ headless-reads cs k s next (line + 1) each.1 (here-tail s at next (comment_bytes c) (comment-no-feed c free) a (length cs) (under_comments cs []) alike)
    (comment-back s at c next free a (under cs 1) b) a.inside (omega arith)
    ∙ ap Err (omega arith)

pub headless-judged : (s : List ℕ) (most room : ℕ) (cs : List (List ℕ)) → Each NoFeed cs
    → first_lines (length cs) s ≡ first_lines (length cs) (under_comments cs []) → FirstBroken s (length cs + 1)
    → wcnf_read_why most s room ≡ Err (BadText (length cs + 1))
unfolding wcnf_read_why header_of
headless-judged s most room cs each alike b =
    let read = headless-reads cs (suc (length s)) s 0 1 each alike (subst (FirstBroken s) (sym (under-is cs 1)) b) (omega arith) (omega arith) in
    rw read (ap (λ (k : ℕ). Err (BadText k)) (omega arith))

-- ---- a header, and clauses up to a line that is none

pub cut-judged : (s : List ℕ) (most room : ℕ) (f : Form) → Held f → (j : ℕ)
    → first_lines (length f.comments + (j + 1)) s ≡ first_lines (length f.comments + (j + 1)) (form_text f)
    → FirstBroken s (length f.comments + (j + 2))
    → wcnf_read_why most s room ≡ figures_first most room f.header
    (faults_first 0 f.header.variables (clauses_said (take j f.lines)) (Err (BadText (length f.comments + (j + 2)))))
unfolding form_text
cut-judged s most room f held j alike b =
    let cs = f.comments in
    let h = f.header in
    let w = alike-passed s cs h j (lines_text f.lines) held.comments held.header alike in
    let p = w.0 in
    let place : 1 + length cs + 1 + j ≡ length cs + (j + 2) = omega arith in
    let two : suc j + 1 ≡ j + 2 = omega arith in
    behind-header s most room cs h p _
    (ap (λ (m : ℕ). clauses_why m 0 h.variables s p.next (1 + length cs + 1)) (sym held.whole)
    ∙ breaks-judged h.variables s j f.lines 0 p.next (1 + length cs + 1) held.lines p.inside w.1
    (λ other long each q.
    (subst (λ (n : ℕ). FirstBroken s (length cs + n)) (sym two) b).breaks
    (record {
      form = form cs h other;
      held = record { comments = held.comments; header = held.header; lines = each; whole = long ∙ held.whole };
      alike = passed-alike s cs h (suc j) (lines_text other) p q;
    }))
    ∙ ap (λ (k : ℕ). faults_first 0 h.variables (clauses_said (take j f.lines)) (Err (BadText k))) place)

-- ---- any text

pub judged-by : (s : List ℕ) (most room : ℕ) (x : Shape s) → wcnf_read_why most s room ≡ judged_by x most room
judged-by s most room (whole f held is) = whole-judged s most room f held is
judged-by s most room (headless cs each alike b) = headless-judged s most room cs each alike b
judged-by s most room (cut f held j few alike b) = cut-judged s most room f held j alike b

-- ---- the line of a refusal 20

-- a refusal 20 comes last: what is before it lets all pass
figures-pass : (most room : ℕ) (h : HeaderLine) (after other : Judged) (k : ℕ) → figures_first most room h after ≡ Err (BadText k)
    → figures_first most room h other ≡ other
figures-pass most room h after other k e = go (ltb most_variables h.variables) (ltb most h.clauses) (ltb room (row_words * h.clauses)) e
  where
    go : (a b c : Bool) → refuse a TooManyVariables (refuse b BadTable (refuse c NoRoom after)) ≡ Err (BadText k)
        → refuse a TooManyVariables (refuse b BadTable (refuse c NoRoom other)) ≡ other
    go true b c q = impossible (cc)
    go false true c q = impossible (cc)
    go false false true q = impossible (cc)
    go false false false q = refl

faults-pass : (cs : List (ℕ × List ℤ)) (i variables : ℕ) (after other : Judged) (k : ℕ) → faults_first i variables cs after ≡ Err (BadText k)
    → faults_first i variables cs other ≡ other
unfolding faults_first
faults-pass [] i variables after other k e = refl
faults-pass (c ∷ cs) i variables after other k e =
    go (bad_members variables c.1) (faults-pass cs (suc i) variables after other k) e
  where
    go : (a : Bool) → (faults_first (suc i) variables cs after ≡ Err (BadText k) → faults_first (suc i) variables cs other ≡ other)
        → refuse a (BadLiterals i) (faults_first (suc i) variables cs after) ≡ Err (BadText k)
        → refuse a (BadLiterals i) (faults_first (suc i) variables cs other) ≡ other
    go true ih q = impossible (cc)
    go false ih q = ih q

-- and so it does where nothing is due
figures-free : (most room : ℕ) (h : HeaderLine) (after other : Judged) → figures_first most room h after ≡ Ok tt
    → (after ≡ Ok tt) × (figures_first most room h other ≡ other)
figures-free most room h after other e =
    let p1 = refuse-fine (ltb most_variables h.variables) TooManyVariables _ e in
    let p2 = refuse-fine (ltb most h.clauses) BadTable _ p1.1 in
    let p3 = refuse-fine (ltb room (row_words * h.clauses)) NoRoom _ p2.1 in
    (p3.1, rw (p1.0, p2.0, p3.0))

faults-free : (cs : List (ℕ × List ℤ)) (i variables : ℕ) (after other : Judged) → faults_first i variables cs after ≡ Ok tt
    → (after ≡ Ok tt) × (faults_first i variables cs other ≡ other)
unfolding faults_first
faults-free [] i variables after other e = (e, refl)
faults-free (c ∷ cs) i variables after other e =
    let p1 = refuse-fine (bad_members variables c.1) (BadLiterals i) _ e in
    let rest = faults-free cs (suc i) variables after other p1.1 in
    (rest.0, rw p1.0 rest.1)

-- all that is due before the last, with the last behind it
abbrev in_turn : ℕ → ℕ → HeaderLine → List (ℕ × List ℤ) → Judged → Judged
in_turn most room h cs after = figures_first most room h (faults_first 0 h.variables cs after)

turn-pass : (most room : ℕ) (h : HeaderLine) (cs : List (ℕ × List ℤ)) (after other : Judged) (k : ℕ) → in_turn most room h cs after ≡ Err (BadText k)
    → (after ≡ Err (BadText k)) × (in_turn most room h cs other ≡ other)
turn-pass most room h cs after other k e =
    let inner = sym (figures-pass most room h _ (faults_first 0 h.variables cs after) k e) ∙ e in (
      sym (faults-pass cs 0 h.variables after after k inner) ∙ inner,
      figures-pass most room h _ (faults_first 0 h.variables cs other) k e ∙ faults-pass cs 0 h.variables after other k inner,
    )

pub turn-free : (most room : ℕ) (h : HeaderLine) (cs : List (ℕ × List ℤ)) (after other : Judged) → in_turn most room h cs after ≡ Ok tt
    → (after ≡ Ok tt) × (in_turn most room h cs other ≡ other)
turn-free most room h cs after other e =
    let outer = figures-free most room h _ (faults_first 0 h.variables cs other) e in
    let inner = faults-free cs 0 h.variables after other outer.0 in
    (inner.0, outer.1 ∙ inner.1)

-- a text has one first line that breaks the form, and one of the form has none
pub one_place : (s : List ℕ) (j k : ℕ) → FirstBroken s j → FirstBroken s k → j ≡ k
one_place s j k p q =
    ⊎_elim (λ (l : j < k). absurd (p.breaks (q.before j l)))
    (λ (g : k ≤ j). ⊎_elim (λ (l : k < j). absurd (q.breaks (p.before k l))) (λ (h : j ≤ k). omega arith) (lt-or-le k j))
    (lt-or-le j k)

pub unbroken : (s : List ℕ) (f : Form) → Held f → s ≡ form_text f → (k : ℕ) → FirstBroken s k → ⊥
unbroken s f held is k b = b.breaks (record { form = f; held = held; alike = ap (first_lines k) is })

same_place : (a k : ℕ) → ◌≡◌ {A = Judged} (Err (BadText a)) (Err (BadText k)) → a ≡ k
same_place a k e = cc

-- a refusal 20 is given with the first line that breaks the form, where nothing else is due before
module _ (s : List ℕ) (most room k : ℕ) where
  by_shape : (x : Shape s) → judged_by x most room ≡ Err (BadText k) → FirstBroken s k × (due_before x most room ≡ Ok tt)
  by_shape (whole f held is) q =
      let z = (turn-pass most room f.header (clauses_said f.lines) (Ok tt) (Ok tt) k q).0 in
      impossible (cc)
  by_shape (headless cs each alike b) q = (subst (FirstBroken s) (same_place (length cs + 1) k q) b, refl)
  by_shape (cut f held j few alike b) q =
      let place = length f.comments + (j + 2) in
      let z = turn-pass most room f.header (clauses_said (take j f.lines)) (Err (BadText place)) (Ok tt) k q in
      (subst (FirstBroken s) (same_place place k z.0) b, z.1)

  pub first-line : wcnf_read_why most s room ≡ Err (BadText k) → FirstBroken s k
  first-line e = (by_shape (shape_of s) (sym (judged-by s most room (shape_of s)) ∙ e)).0

  pub line-due : (x : Shape s) → wcnf_read_why most s room ≡ Err (BadText k) → due_before x most room ≡ Ok tt
  line-due x e = (by_shape x (sym (judged-by s most room x) ∙ e)).1

  pub line-given : (x : Shape s) → FirstBroken s k → due_before x most room ≡ Ok tt → wcnf_read_why most s room ≡ Err (BadText k)
  line-given (whole f held is) b e = absurd (unbroken s f held is k b)
  line-given (headless cs each alike own) b e =
      headless-judged s most room cs each alike own ∙ ap (λ (n : ℕ). Err (BadText n)) (one_place s (length cs + 1) k own b)
  line-given (cut f held j few alike own) b e =
      let place = length f.comments + (j + 2) in
      cut-judged s most room f held j alike own
      ∙ (turn-free most room f.header (clauses_said (take j f.lines)) (Ok tt) (Err (BadText place)) e).1
      ∙ ap (λ (n : ℕ). Err (BadText n)) (one_place s place k own b)
