-- Each text is of the form, or has a first line that breaks it. A line that is read is one of the form, and stands in front of what the rest is; a line that
-- is not read is none of the form, for there it would be read. A comment is told from a header by its first byte.
use Rattle.std.specs.Prelude.{Result, Ok, Err}
use Prim.Native.Nat.{ℕ, zero, suc, ◌+◌, ◌-◌, ◌<◌, ◌≤◌}
use mathlib.Core.Path.{◌≡◌, refl, sym, ap, subst, ◌∙◌}
use mathlib.Core.Logic.{⊎_elim}
use mathlib.Core.Bool.{true, false}
use mathlib.Core.List.{List, [], ◌∷◌, ◌++◌}
use native.Mathlib.Omega.{arith}
use lib.ListN.{length, get_or, drop}
use Rattle.masks.proofs.Choice.{impossible, cases, lt-or-le, clash}
use Rattle.rules.specs.declared.WcnfHead.{WcnfHead}
use Rattle.rules.specs.Text.{line_feed}
use Rattle.rules.specs.Reader.{stands}
use Rattle.rules.specs.WcnfReader.{feed_from, header_at, header_from}
use Rattle.text_laws.specs.Lines.{first_lines, NoFeed}
use Rattle.text_laws.proofs.Stands.{first-stands, front-byte}
use Rattle.text_laws.proofs.Cuts.{lines-ended, fewer-lines}
use Rattle.wcnf_laws.specs.Form.{ClauseLine, HeaderLine, header_bytes, comment_bytes, Form, lines_text, under_comments, form_text}
use Rattle.wcnf_laws.specs.Form.{Each, ClauseHeld, HeaderHeld, Held, InForm, FirstBroken}
use Rattle.wcnf_laws.specs.Order.{Shape, whole, headless, cut}
use Rattle.wcnf_laws.proofs.HeaderLines.{same_header, header-front, header-no-feed, header_read, header-found, own_line}
use Rattle.wcnf_laws.proofs.CommentLines.{c_code, begins, comment-bytes, comment-no-feed, no-comment, feed-is}
use Rattle.wcnf_laws.proofs.CommentLines.{comment-found, comment-passed, comment-unended}
use Rattle.wcnf_laws.proofs.RestLines.{Here, here, here-front, found_here}
use Rattle.wcnf_laws.proofs.RestLines.{RestBroken, RestShape, ends, breaks, rest-shape}

-- ---- a form by its parts

abbrev pub form : List (List ℕ) → HeaderLine → List ClauseLine → Form
form cs h lines = record { comments = cs; header = h; lines = lines }

abbrev pub form_of : List (List ℕ) → HeaderLine → List ℕ → List ℕ
form_of cs h rest = under_comments cs (header_bytes h ++ (line_feed ∷ rest))

blank_form : Form
blank_form = form [] (record { variables = 0; clauses = 0; top = 0; name-gap = 0; variables-gap = 0; clauses-gap = 0; top-gap = 0 }) []

blank-form : Held blank_form
unfolding blank_form
blank-form =
    record {
      comments = tt;
      header = record { variables-digits = omega arith; clauses-digits = omega arith; top_digits = omega arith };
      lines = tt;
      whole = refl;
    }

-- no line of a text breaks the form yet
pub none_yet : (t : List ℕ) → InForm t 0
unfolding first_lines
none_yet t = record { form = blank_form; held = blank-form; alike = refl }

-- where one line more is in the form, one less is
fewer-in : (t : List ℕ) (j k : ℕ) → j ≤ k → InForm t k → InForm t j
fewer-in t j k l f = record { form = f.form; held = f.held; alike = fewer-lines j k t (form_text f.form) l f.alike }

-- a line breaks it first where the lines before are in the form
pub broken-next : (t : List ℕ) (k : ℕ) → InForm t k → (InForm t (suc k) → ⊥) → FirstBroken t (suc k)
broken-next t k f h = record { before = λ j l. fewer-in t j k (omega arith) f; breaks = h }

-- ---- comments

-- the same line at a place, as a header's and as a comment's
two-lines : (s : List ℕ) (at n : ℕ) (c : List ℕ) (next : ℕ) (h : HeaderLine) (rest : List ℕ) → Here s at (comment_bytes c) next
    → first_lines (suc n) (drop at s) ≡ first_lines (suc n) (header_bytes h ++ (line_feed ∷ rest)) → ⊥
two-lines s at n c next h rest a e =
    let b = here s at n (header_bytes h) rest (header-no-feed h) e in
    let front : get_or s at 0 ≡ c_code = front-byte s at c_code c (sym (ap (stands s at) (comment-bytes c)) ∙ a.stand) in
    omega (arith, front, header-front s at h b.stand)

module _ (s : List ℕ) (at : ℕ) (c : List ℕ) (next : ℕ) (free : NoFeed c) (a : Here s at (comment_bytes c) next) where
  -- lines in the form, with a comment in front and without it
  pub comment-in : (j : ℕ) → InForm (drop next s) j → InForm (drop at s) (suc j)
  unfolding form_text under_comments
  comment-in j f =
      record {
        form = form (c ∷ f.form.comments) f.form.header f.form.lines;
        held = record { comments = (free, f.held.comments); header = f.held.header; lines = f.held.lines; whole = f.held.whole };
        alike = here-front s at next (comment_bytes c) (comment-no-feed c free) a j (form_text f.form) f.alike;
      }

  out_of : (j : ℕ) (cs : List (List ℕ)) (h : HeaderLine) (lines : List ClauseLine) → Held (form cs h lines)
      → first_lines (suc j) (drop at s) ≡ first_lines (suc j) (form_of cs h (lines_text lines)) → InForm (drop next s) j
  unfolding form_text under_comments
  out_of j [] h lines held e = absurd (two-lines s at j c next h (lines_text lines) a e)
  out_of j (d ∷ cs) h lines held e =
      let theirs = lines-ended j (comment_bytes d) (form_of cs h (lines_text lines)) (comment-no-feed d held.comments.0) in
      let own = a.lines j in
      let rest : first_lines j (drop next s) ≡ first_lines j (form_of cs h (lines_text lines)) = cc in
      record {
        form = form cs h lines;
        held = record { comments = held.comments.1; header = held.header; lines = held.lines; whole = held.whole };
        alike = rest;
      }

  pub comment-out : (j : ℕ) → InForm (drop at s) (suc j) → InForm (drop next s) j
  unfolding form_text
  comment-out j f = out_of j f.form.comments f.form.header f.form.lines f.held f.alike

  pub comment-then : (j : ℕ) → FirstBroken (drop next s) j → FirstBroken (drop at s) (suc j)
  comment-then j b = record { before = before; breaks = λ f. b.breaks (comment-out j f) }
    where
      before : (i : ℕ) → i < suc j → InForm (drop at s) i
      before zero l = none_yet (drop at s)
      before (suc i) l = comment-in i (b.before i (omega arith))

  pub comment-back : (j : ℕ) → FirstBroken (drop at s) (suc j) → FirstBroken (drop next s) j
  comment-back j b = record { before = λ i l. comment-out i (b.before (suc i) (omega arith)); breaks = λ f. b.breaks (comment-in j f) }

-- ---- the first line of all

-- neither a comment nor a header
pub record Neither (s : List ℕ) (at : ℕ) : Type 0 where
  pub no-comment : (c : List ℕ) → NoFeed c → Here s at (comment_bytes c) (at + length (comment_bytes c) + 1) → ⊥
  pub no_header : (h : HeaderLine) → HeaderHeld h → Here s at (header_bytes h) (at + length (header_bytes h) + 1) → ⊥

pub neither-broken : (s : List ℕ) (at : ℕ) → Neither s at → FirstBroken (drop at s) 1
unfolding form_text under_comments
neither-broken s at n =
    broken-next (drop at s) 0 (none_yet (drop at s)) (λ f. go f.form.comments f.form.header f.form.lines f.held f.alike)
  where
    go : (cs : List (List ℕ)) (h : HeaderLine) (lines : List ClauseLine) → Held (form cs h lines)
        → first_lines 1 (drop at s) ≡ first_lines 1 (form_of cs h (lines_text lines)) → ⊥
    go [] h lines held e = n.no_header h held.header (here s at 0 (header_bytes h) (lines_text lines) (header-no-feed h) e)
    go (c ∷ cs) h lines held e =
        let free = held.comments.0 in
        n.no-comment c free (here s at 0 (comment_bytes c) (form_of cs h (lines_text lines)) (comment-no-feed c free) e)

-- what the line at a place is, and what the reader makes of it
pub data HeadShape (k : ℕ) (s : List ℕ) (at line : ℕ) : Type 0 where
  comment : (c : List ℕ) (next : ℕ) → NoFeed c → Here s at (comment_bytes c) next → at < next
      → header_from (suc k) s at line ≡ header_from k s next (line + 1) → HeadShape k s at line
  header : (h : HeaderLine) (next : ℕ) → HeaderHeld h → Here s at (header_bytes h) next → HeadShape k s at line
  neither : Neither s at → header_from (suc k) s at line ≡ Err line → HeadShape k s at line

pub begins-front : (s : List ℕ) (at : ℕ) → begins s at ≡ true → get_or s at 0 ≡ c_code
begins-front s at e = front-byte s at c_code [] e

comment-begins : (s : List ℕ) (at : ℕ) (c : List ℕ) → stands s at (comment_bytes c) ≡ true → begins s at ≡ true
comment-begins s at c e = first-stands s at (c_code ∷ []) c (sym (ap (stands s at) (comment-bytes c)) ∙ e)

module _ (k : ℕ) (s : List ℕ) (at line : ℕ) (l : at ≤ length s) where
  by-comment : begins s at ≡ true → HeadShape k s at line
  by-comment b = ⊎_elim passed unended (lt-or-le (feed_from (length s - at) s at) (length s))
    where
      passed : feed_from (length s - at) s at < length s → HeadShape k s at line
      passed h =
          let f = comment-found s at l b h in
          let next = feed_from (length s - at) s at + 1 in
          comment f.comment next f.free
          (found_here s at (comment_bytes f.comment) next (comment-no-feed f.comment f.free) f.stand f.feed f.end)
          (omega (arith, f.end)) (comment-passed k s at line b h)

      unended : length s ≤ feed_from (length s - at) s at → HeadShape k s at line
      unended h =
          neither
          (record {
            no-comment = λ c free a.
                let end = feed-is (comment_bytes c) (length s - at) s at (comment-no-feed c free) a.stand a.feed (omega (arith, a.inside)) in
                omega (arith, a.inside, end);
            no_header = λ g held a. omega (arith, begins-front s at b, header-front s at g a.stand);
          })
          (comment-unended k s at line b h)

  by-header : begins s at ≡ false → (x : Result WcnfHead ℕ) → header_at s at line ≡ x → HeadShape k s at line
  by-header b (Ok head) e =
      let f = (header-found s at line head.variables head.clauses head.top head.next head.line e).0 in
      header f.header head.next f.held (found_here s at (header_bytes f.header) head.next (header-no-feed f.header) f.stand f.feed f.end)
  by-header b (Err own) e =
      let is = own_line s line own at e in
      neither
      (record {
        no-comment = λ c free a. clash (comment-begins s at c a.stand) b;
        no_header = λ g held a. let read = header_read s at line g held a.stand a.feed in impossible (cc);
      })
      (no-comment k s at line b ∙ e ∙ ap Err is)

  pub head-shape : HeadShape k s at line
  head-shape = ⊎_elim by-comment (λ b. by-header b (header_at s at line) refl) (cases (begins s at))

-- ---- the header, and what it leaves

-- one line has one header's figures
pub one-header : (s : List ℕ) (at : ℕ) (g h : HeaderLine) (a b : ℕ) → HeaderHeld g → HeaderHeld h → Here s at (header_bytes g) a → Here s at (header_bytes h) b
    → g.clauses ≡ h.clauses
one-header s at g h a b p q x y =
    (same_header (sym (header_read s at 0 g p x.stand x.feed) ∙ header_read s at 0 h q y.stand y.feed)).1

module _ (s : List ℕ) (at : ℕ) (h : HeaderLine) (next : ℕ) (held : HeaderHeld h) (a : Here s at (header_bytes h) next) where
  pub header-in : (j : ℕ) (lines : List ClauseLine) → length lines ≡ h.clauses → Each ClauseHeld lines
      → first_lines j (drop next s) ≡ first_lines j (lines_text lines) → InForm (drop at s) (suc j)
  unfolding form_text under_comments
  header-in j lines long each e =
      record {
        form = form [] h lines;
        held = record { comments = tt; header = held; lines = each; whole = long };
        alike = here-front s at next (header_bytes h) (header-no-feed h) a j (lines_text lines) e;
      }

  none-behind : (j : ℕ) → RestBroken h.clauses (drop next s) j → (cs : List (List ℕ)) (g : HeaderLine) (lines : List ClauseLine) → Held (form cs g lines)
      → first_lines (suc (suc j)) (drop at s) ≡ first_lines (suc (suc j)) (form_of cs g (lines_text lines)) → ⊥
  unfolding under_comments
  none-behind j b (c ∷ cs) g lines all e =
      let x = here s at (suc j) (comment_bytes c) (form_of cs g (lines_text lines)) (comment-no-feed c all.comments.0) e in
      omega (arith, begins-front s at (comment-begins s at c x.stand), header-front s at h a.stand)
  none-behind j b [] g lines all e =
      let x = here s at (suc j) (header_bytes g) (lines_text lines) (header-no-feed g) e in
      let same = one-header s at g h (at + length (header_bytes g) + 1) next all.header held x a in
      let theirs = lines-ended (suc j) (header_bytes g) (lines_text lines) (header-no-feed g) in
      let own = a.lines (suc j) in
      let rest : first_lines (suc j) (drop next s) ≡ first_lines (suc j) (lines_text lines) = cc in
      b.none lines (all.whole ∙ same) all.lines rest

  pub header-then : (j : ℕ) → RestBroken h.clauses (drop next s) j → FirstBroken (drop at s) (suc (suc j))
  unfolding form_text
  header-then j b =
      broken-next (drop at s) (suc j) (header-in j b.lines b.long b.held b.alike)
      (λ f. none-behind j b f.form.comments f.form.header f.form.lines f.held f.alike)

  shape_behind : RestShape h.clauses (drop next s) → Shape (drop at s)
  unfolding form_text under_comments
  shape_behind (ends lines long each text) =
      whole (form [] h lines) (record { comments = tt; header = held; lines = each; whole = long })
      (a.cut ∙ ap (λ (x : List ℕ). header_bytes h ++ (line_feed ∷ x)) text)
  shape_behind (breaks j b) =
      let f : Form = form [] h b.lines in
      let one : suc j ≡ 0 + (j + 1) = omega arith in
      let two : suc (suc j) ≡ 0 + (j + 2) = omega arith in
      cut f (record { comments = tt; header = held; lines = b.held; whole = b.long }) j (omega (arith, b.few, b.long))
      (subst (λ (n : ℕ). first_lines n (drop at s) ≡ first_lines n (form_text f)) one
      (here-front s at next (header_bytes h) (header-no-feed h) a j (lines_text b.lines) b.alike))
      (subst (FirstBroken (drop at s)) two (header-then j b))

-- ---- the shape of a text

shape-comment : (s : List ℕ) (at : ℕ) (c : List ℕ) (next : ℕ) → NoFeed c → Here s at (comment_bytes c) next → Shape (drop next s) → Shape (drop at s)
unfolding form_text under_comments
shape-comment s at c next free a (whole f held is) =
    whole (form (c ∷ f.comments) f.header f.lines)
    (record { comments = (free, held.comments); header = held.header; lines = held.lines; whole = held.whole })
    (a.cut ∙ ap (λ (x : List ℕ). comment_bytes c ++ (line_feed ∷ x)) is)
shape-comment s at c next free a (headless cs each alike broken) =
    let one : suc (length cs + 1) ≡ suc (length cs) + 1 = omega arith in
    headless (c ∷ cs) (free, each) (here-front s at next (comment_bytes c) (comment-no-feed c free) a (length cs) (under_comments cs []) alike)
    (subst (FirstBroken (drop at s)) one (comment-then s at c next free a (length cs + 1) broken))
shape-comment s at c next free a (cut f held j few alike broken) =
    let g : Form = form (c ∷ f.comments) f.header f.lines in
    let n = length f.comments in
    let one : suc (n + (j + 1)) ≡ suc n + (j + 1) = omega arith in
    let two : suc (n + (j + 2)) ≡ suc n + (j + 2) = omega arith in
    cut g (record { comments = (free, held.comments); header = held.header; lines = held.lines; whole = held.whole }) j few
    (subst (λ (m : ℕ). first_lines m (drop at s) ≡ first_lines m (form_text g)) one
    (here-front s at next (comment_bytes c) (comment-no-feed c free) a (n + (j + 1)) (form_text f) alike))
    (subst (FirstBroken (drop at s)) two (comment-then s at c next free a (n + (j + 2)) broken))

shape-neither : (s : List ℕ) (at : ℕ) → Neither s at → Shape (drop at s)
unfolding first_lines
shape-neither s at n = headless [] tt refl (neither-broken s at n)

shape-from : (k : ℕ) (s : List ℕ) (at : ℕ) → at ≤ length s → length s < at + k → Shape (drop at s)
shape-from zero s at l h = absurd (omega arith)
shape-from (suc k) s at l h = go (head-shape k s at 0 l) (λ next p q. shape-from k s next p q)
  where
    go : HeadShape k s at 0 → ((next : ℕ) → next ≤ length s → length s < next + k → Shape (drop next s)) → Shape (drop at s)
    go (comment c next free a far e) ih = shape-comment s at c next free a (ih next a.inside (omega arith))
    go (header g next held a) ih = shape_behind s at g next held a (rest-shape g.clauses s next a.inside)
    go (neither n e) ih = shape-neither s at n

-- each text has one
pub shape_of : (s : List ℕ) → Shape s
shape_of s = shape-from (suc (length s)) s 0 (omega arith) (omega arith)
