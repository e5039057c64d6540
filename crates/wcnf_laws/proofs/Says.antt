-- What a text of the form says is read as it is said: its figures, and of each clause the weight and the literals. So texts that differ only in comments,
-- gaps, the order of literals or repeats give the same table, and are judged alike.
use Rattle.std.specs.Prelude.{Ok, Err}
use Prim.Native.Nat.{ℕ, suc, ◌+◌}
use mathlib.Core.Path.{◌≡◌, refl, sym, ap, ap₂, subst, ◌∙◌}
use mathlib.Core.Logic.{⊎_elim}
use mathlib.Core.Bool.{Bool, true, ◌||◌, or-true}
use mathlib.Core.List.{List, [], ◌∷◌, Memᴰ}
use lib.Dec.{ltb}
use lib.IntN.{ℤ}
use lib.ListN.{length, drop, take}
use Rattle.masks.proofs.Choice.{impossible, same_test, or_cases}
use Rattle.literals.specs.declared.Lits.{Lits}
use Rattle.literals.specs.Literal.{size}
use Rattle.rules.specs.declared.Refusal.TheVariants.{BadText, BadLiterals}
use Rattle.rules.specs.Refusals.{Judged, refuse}
use Rattle.rules.specs.Table.{bad_lits}
use Rattle.rules.specs.WcnfReader.{some_above, bad_members, header_of, wcnf_read_why, wcnf_words, header_says}
use Rattle.text_laws.specs.Lines.{first_lines}
use Rattle.wcnf_laws.specs.Members.{SameMembers, SameClauses, none, next}
use Rattle.wcnf_laws.specs.Said.{clauses_at, SaysSame}
use Rattle.wcnf_laws.specs.Form.{ClauseLine, clause_bytes, Form, lines_text, form_text, Each, ClauseHeld, Held, numbers_of, clauses_said}
use Rattle.wcnf_laws.specs.Order.{faults_first, Shape, whole, headless, cut, judged_by}
use Rattle.wcnf_laws.specs.Given.{figures_first}
use Rattle.wcnf_laws.specs.Same.{DifferOnly}
use Rattle.wcnf_laws.specs.Said.{SameRead}
use Rattle.wcnf_laws.proofs.Members.{words_of_clauses, words-of-clauses, members-same, same-words, same_answer, same-table}
use Rattle.wcnf_laws.proofs.ClauseLines.{clause-read}
use Rattle.wcnf_laws.proofs.RestJudged.{first-here, tail-alike}
use Rattle.wcnf_laws.proofs.Shapes.{shape_of}
use Rattle.wcnf_laws.proofs.Orders.{whole-passed, headed, whole-judged, judged-by, turn-free}

-- ---- the clauses

clauses-said : (s : List ℕ) (lines : List ClauseLine) (at : ℕ) → Each ClauseHeld lines → ((n : ℕ) → first_lines n (drop at s) ≡ first_lines n (lines_text lines))
    → clauses_at (length lines) s at ≡ clauses_said lines
unfolding clauses_at clauses_said
clauses-said s [] at held alike = refl
clauses-said s (c ∷ cs) at held alike =
    let h = first-here s at 0 c cs (alike 1) in
    let behind = at + length (clause_bytes c) + 1 in
    clause-read s at c held.0 h.stand h.feed _ _
    ∙ ap (λ (more : List (ℕ × List ℤ)). (c.weight, numbers_of c.literals) ∷ more)
    (clauses-said s cs behind held.1 (λ n. tail-alike s at behind n c cs h (alike (suc n))))

pub record Figured (s : List ℕ) (f : Form) : Type 0 where
  pub next : ℕ
  pub header : header_of s ≡ Ok (header_says f.header.variables f.header.clauses f.header.top next (1 + length f.comments))
  pub said : clauses_at f.header.clauses s next ≡ clauses_said f.lines

pub figured : (s : List ℕ) (f : Form) → Held f → s ≡ form_text f → Figured s f
figured s f held is =
    let p = whole-passed s f held is in
    record {
      next = p.0.next;
      header = headed s f.comments f.header p.0;
      said =
          ap (λ (m : ℕ). clauses_at m s p.0.next) (sym held.whole) ∙ clauses-said s f.lines p.0.next held.lines p.1;
    }

-- and so is its table
pub form-words : (s : List ℕ) (f : Form) → Held f → s ≡ form_text f → wcnf_words s ≡ words_of_clauses f.header.top (clauses_said f.lines)
unfolding wcnf_words
form-words s f held is =
    let x = figured s f held is in
    rw x.header (words-of-clauses f.header.clauses f.header.top s x.next ∙ ap (words_of_clauses f.header.top) x.said)

-- ---- texts that differ only so

said-long : (lines : List ClauseLine) → length (clauses_said lines) ≡ length lines
unfolding clauses_said
said-long [] = refl
said-long (c ∷ cs) = ap suc (said-long cs)

same-long : {cs ds : List (ℕ × List ℤ)} → SameClauses cs ds → length cs ≡ length ds
same-long none = refl
same-long (next w ls ms same rest) = ap suc (same-long rest)

module _ (f g : Form) (p : Held f) (q : Held g) (only : DifferOnly f g) where
  as_many : f.header.clauses ≡ g.header.clauses
  as_many =
      sym p.whole ∙ sym (said-long f.lines) ∙ same-long only.clauses ∙ said-long g.lines ∙ q.whole

  pub says_same : SaysSame (form_text f) (form_text g)
  says_same =
      let x = figured (form_text f) f p refl in
      let y = figured (form_text g) g q refl in
      let count = as_many in
      record {
        variables = f.header.variables;
        clauses = f.header.clauses;
        top = f.header.top;
        next_here = x.next;
        next-there = y.next;
        line-here = 1 + length f.comments;
        line-there = 1 + length g.comments;
        here = x.header;
        there = rw (only.variables, count, only.top) y.header;
        same =
            subst (λ (cs : List (ℕ × List ℤ)). SameClauses cs (clauses_at f.header.clauses (form_text g) y.next)) (sym x.said)
            (subst (SameClauses (clauses_said f.lines)) (sym (ap (λ (m : ℕ). clauses_at m (form_text g) y.next) count ∙ y.said)) only.clauses);
      }

  pub same_read : SameRead (form_text f) (form_text g)
  same_read =
      record {
        words = same-words (form_text f) (form_text g) says_same;
        answer = same_answer (form_text f) (form_text g) says_same;
        table = same-table (form_text f) (form_text g) says_same;
      }

-- ---- judged alike

pub above_in : (variables : ℕ) (l : ℤ) (ls : List ℤ) → Memᴰ l ls → ltb variables (size l) ≡ true → some_above variables ls ≡ true
unfolding some_above
above_in variables l [] m t = elim m [ ]
above_in variables l (x ∷ xs) (Memᴰ.head e) t = rw (ap (λ (z : ℤ). ltb variables (size z)) (sym e) ∙ t)
above_in variables l (x ∷ xs) (Memᴰ.tail m) t = rw (above_in variables l xs m t) (or-true (ltb variables (size x)))

pub above-out : (variables : ℕ) (ls : List ℤ) → some_above variables ls ≡ true → (l : ℤ) × Memᴰ l ls × (ltb variables (size l) ≡ true)
unfolding some_above
above-out variables [] e = impossible (cc)
above-out variables (x ∷ xs) e =
    ⊎_elim
    (λ (t : ltb variables (size x) ≡ true). (x, Memᴰ.head refl, t))
    (λ (t : some_above variables xs ≡ true). let w = above-out variables xs t in (w.0, Memᴰ.tail w.1, w.2))
    (or_cases (ltb variables (size x)) (some_above variables xs) e)

above-part : (variables : ℕ) (ls ms : List ℤ) → ((l : ℤ) → Memᴰ l ls → Memᴰ l ms) → some_above variables ls ≡ true → some_above variables ms ≡ true
above-part variables ls ms h e =
    let w = above-out variables ls e in
    above_in variables w.0 ms (h w.0 w.1) w.2

pub bad-same : (variables : ℕ) (ls ms : List ℤ) → SameMembers ls ms → bad_members variables ls ≡ bad_members variables ms
unfolding bad_members
bad-same variables ls ms same =
    ap₂ (λ (a : Bool) (l : Lits). a || bad_lits variables l)
    (same_test (above-part variables ls ms same.there) (above-part variables ms ls same.back)) (members-same ls ms same)

faults-same : {cs ds : List (ℕ × List ℤ)} (i variables : ℕ) (after : Judged) → SameClauses cs ds
    → faults_first i variables cs after ≡ faults_first i variables ds after
unfolding faults_first
faults-same i variables after none = refl
faults-same i variables after (next w ls ms same rest) =
    ap₂ (λ (a : Bool) (j : Judged). refuse a (BadLiterals i) j) (bad-same variables ls ms same)
    (faults-same (suc i) variables after rest)

-- one is accepted where the other is, and refused as the other is
pub same-judged : (f g : Form) → Held f → Held g → DifferOnly f g → (most room : ℕ) → wcnf_read_why most (form_text f) room ≡ wcnf_read_why most (form_text g) room
same-judged f g p q only most room =
    let count = as_many f g p q only in
    whole-judged (form_text f) most room f p refl
    ∙ rw (only.variables, count)
    (ap (figures_first most room g.header) (faults-same 0 g.header.variables (Ok tt) only.clauses))
    ∙ sym (whole-judged (form_text g) most room g q refl)

-- ---- an accepted text is of the form

pub record Accepted (s : List ℕ) : Type 0 where
  pub form : Form
  pub held : Held form
  pub text : s ≡ form_text form

pub accepted-form : (s : List ℕ) (most room : ℕ) → wcnf_read_why most s room ≡ Ok tt → Accepted s
accepted-form s most room e = go (shape_of s) (sym (judged-by s most room (shape_of s)) ∙ e)
  where
    go : (x : Shape s) → judged_by x most room ≡ Ok tt → Accepted s
    go (whole f held is) q = record { form = f; held = held; text = is }
    go (headless cs each alike b) q = impossible (cc)
    go (cut f held j few alike b) q =
        let said = clauses_said (take j f.lines) in
        let last : Judged = Err (BadText (length f.comments + (j + 2))) in
        let z : last ≡ (Ok tt) = (turn-free most room f.header said last last q).0 in
        impossible (cc)
