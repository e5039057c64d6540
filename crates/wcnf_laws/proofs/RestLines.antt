-- The clauses' lines, and that nothing follows them. A line that is read is one of the form, so what is read so far goes on to some lines of the form; and
-- a line that is not read is none of the form, for there it would be read.
use Rattle.std.specs.Prelude.{Option, Some, None}
use Prim.Native.Nat.{ℕ, zero, suc, ◌+◌, ◌≤◌}
use mathlib.Core.Path.{◌≡◌, refl, sym, ap, ◌∙◌}
use mathlib.Core.Logic.{⊎_elim}
use mathlib.Core.Bool.{true}
use mathlib.Core.List.{List, [], ◌∷◌, ◌++◌}
use native.Mathlib.Omega.{arith}
use lib.IntN.{ℤ}
use lib.ListN.{length, get_or, drop, length-append, length-drop, drop_of_length-le}
use Rattle.masks.proofs.Choice.{impossible, eq-or-ne, some-pair}
use Rattle.rules.specs.Refusals.{Judged}
use Rattle.rules.specs.Text.{line_feed}
use Rattle.rules.specs.Reader.{stands, number_at}
use Rattle.rules.specs.WcnfReader.{MembersRead, members, broken_line, members_from, on_clause}
use Rattle.text_laws.specs.Lines.{Line, ended, missing, first_line, first_lines, NoFeed}
use Rattle.text_laws.proofs.Stands.{first-stands, second-stands, both-stand, byte-stands, front-byte}
use Rattle.text_laws.proofs.Cuts.{LineAt, line-at, at-line, lines-ended, missing-is}
use Rattle.text_laws.proofs.Broken.{lines_at}
use Rattle.wcnf_laws.specs.Form.{ClauseLine, clause_bytes, lines_text, Each, ClauseHeld}
use Rattle.wcnf_laws.proofs.ClauseLines.{ClauseFound, clause-found, clause-no-feed, weight-read, members-read}

-- ---- a line at a place

line-here : (s : List ℕ) (at : ℕ) (c : List ℕ) (next : ℕ) → stands s at c ≡ true → get_or s (at + length c) 0 ≡ line_feed → next ≡ at + length c + 1
    → LineAt s at c next
line-here s at c next e f p =
    line-at s at c next (both-stand s at c (line_feed ∷ []) e (byte-stands s (at + length c) line_feed f))
    (p ∙ omega (arith, length-append c (line_feed ∷ [])))

here-line : (s : List ℕ) (at : ℕ) (c : List ℕ) → first_line (drop at s) ≡ ended c → (stands s at c ≡ true) × (get_or s (at + length c) 0 ≡ line_feed)
here-line s at c e =
    let whole = at-line s at c e in
    (first-stands s at c (line_feed ∷ []) whole, front-byte s (at + length c) line_feed [] (second-stands s at c (line_feed ∷ []) whole))

-- a line at a place, and the lines behind it
pub record Here (s : List ℕ) (at : ℕ) (c : List ℕ) (next : ℕ) : Type 0 where
  pub stand : stands s at c ≡ true
  pub feed : get_or s (at + length c) 0 ≡ line_feed
  pub inside : next ≤ length s
  pub lines : (n : ℕ) → first_lines (suc n) (drop at s) ≡ ended c ∷ first_lines n (drop next s)
  pub cut : drop at s ≡ c ++ (line_feed ∷ drop next s)

pub found_here : (s : List ℕ) (at : ℕ) (c : List ℕ) (next : ℕ) → NoFeed c → stands s at c ≡ true → get_or s (at + length c) 0 ≡ line_feed
    → next ≡ at + length c + 1 → Here s at c next
found_here s at c next free e f p =
    let whole = line-here s at c next e f p in
    record { stand = e; feed = f; inside = whole.inside; lines = λ n. lines_at n s at c next free whole; cut = whole.cut }

-- where the first line of what is alike is one
pub here : (s : List ℕ) (at n : ℕ) (c r : List ℕ) → NoFeed c → first_lines (suc n) (drop at s) ≡ first_lines (suc n) (c ++ (line_feed ∷ r))
    → Here s at c (at + length c + 1)
unfolding first_lines
here s at n c r free e =
    let front = lines-ended n c r free in
    let first : first_line (drop at s) ≡ ended c = cc in
    let h = here-line s at c first in
    found_here s at c (at + length c + 1) free h.0 h.1 refl

-- what is alike with it is alike behind it, and the other way
module _ (s : List ℕ) (at next : ℕ) (c : List ℕ) (free : NoFeed c) (h : Here s at c next) (n : ℕ) (r : List ℕ) where
  pub here-tail : first_lines (suc n) (drop at s) ≡ first_lines (suc n) (c ++ (line_feed ∷ r)) → first_lines n (drop next s) ≡ first_lines n r
  here-tail e =
      let front = lines-ended n c r free in
      let own = h.lines n in
      cc

  pub here-front : first_lines n (drop next s) ≡ first_lines n r → first_lines (suc n) (drop at s) ≡ first_lines (suc n) (c ++ (line_feed ∷ r))
  here-front e = h.lines n ∙ ap (λ (x : List Line). ended c ∷ x) e ∙ sym (lines-ended n c r free)

-- ---- lines of the form, for those that are not read yet

pub blank : ℕ → List ClauseLine
blank zero = []
blank (suc m) = record { weight = 0; literals = []; last = 0 } ∷ blank m

pub blank-long : (m : ℕ) → length (blank m) ≡ m
unfolding blank
blank-long zero = refl
blank-long (suc m) = ap suc (blank-long m)

pub blank-held : (m : ℕ) → Each ClauseHeld (blank m)
unfolding blank
blank-held zero = tt
blank-held (suc m) = (record { light = omega arith; each = tt }, blank-held m)

pub lines-front : (k : ℕ) (c : ClauseLine) (cs : List ClauseLine)
    → first_lines (suc k) (lines_text (c ∷ cs)) ≡ ended (clause_bytes c) ∷ first_lines k (lines_text cs)
unfolding lines_text
lines-front k c cs = lines-ended k (clause_bytes c) (lines_text cs) (clause-no-feed c)

-- ---- the clauses, and the end

-- of the lines of m clauses and what follows, j are those of lines of the form, and j + 1 are those of none
pub record RestBroken (m : ℕ) (t : List ℕ) (j : ℕ) : Type 0 where
  pub lines : List ClauseLine
  pub long : length lines ≡ m
  pub few : j ≤ m
  pub held : Each ClauseHeld lines
  pub alike : first_lines j t ≡ first_lines j (lines_text lines)
  pub none : (other : List ClauseLine) → length other ≡ m → Each ClauseHeld other → first_lines (suc j) t ≡ first_lines (suc j) (lines_text other) → ⊥

end-broken : (s : List ℕ) (at : ℕ) → at ≤ length s → (at ≡ length s → ⊥) → RestBroken 0 (drop at s) 0
unfolding first_lines first_line lines_text
end-broken s at l h =
    record {
      lines = [];
      long = refl;
      few = omega arith;
      held = tt;
      alike = refl;
      none = none_of;
    }
  where
    none_of : (other : List ClauseLine) → length other ≡ 0 → Each ClauseHeld other → first_lines 1 (drop at s) ≡ first_lines 1 (lines_text other) → ⊥
    none_of (c ∷ cs) long each q = omega (arith, long)
    none_of [] long each q =
        let line : first_line (drop at s) ≡ missing = cc in
        let none_left : length (drop at s) ≡ 0 = ap length (missing-is (drop at s) line) in
        h (omega (arith, sym (length-drop at s) ∙ none_left))

clause-broken : (s : List ℕ) (at m : ℕ) → ((c : ClauseLine) → ClauseHeld c → first_line (drop at s) ≡ ended (clause_bytes c) → ⊥)
    → RestBroken (suc m) (drop at s) 0
unfolding first_lines
clause-broken s at m h =
    record {
      lines = blank (suc m);
      long = blank-long (suc m);
      few = omega arith;
      held = blank-held (suc m);
      alike = refl;
      none = none_of;
    }
  where
    none_of : (other : List ClauseLine) → length other ≡ suc m → Each ClauseHeld other → first_lines 1 (drop at s) ≡ first_lines 1 (lines_text other) → ⊥
    none_of [] long each q = omega (arith, long)
    none_of (c ∷ cs) long each q =
        let first = lines-front 0 c cs in
        let line : first_line (drop at s) ≡ ended (clause_bytes c) = cc in
        h c each.0 line

-- a clause that is read is there
pub clause-here : (s : List ℕ) (at w : ℕ) (ms : List ℤ) (next : ℕ) → (f : ClauseFound s at w ms next) → Here s at (clause_bytes f.line) next
clause-here s at w ms next f = found_here s at (clause_bytes f.line) next (clause-no-feed f.line) f.stand f.feed f.end

clause-then : (s : List ℕ) (at m w : ℕ) (ms : List ℤ) (next j : ℕ) → ClauseFound s at w ms next → RestBroken m (drop next s) j
    → RestBroken (suc m) (drop at s) (suc j)
unfolding lines_text
clause-then s at m w ms next j f b =
    record {
      lines = f.line ∷ b.lines;
      long = ap suc b.long;
      few = omega (arith, b.few);
      held = (f.held, b.held);
      alike = here-front s at next (clause_bytes f.line) (clause-no-feed f.line) (clause-here s at w ms next f) j (lines_text b.lines) b.alike;
      none = none_of;
    }
  where
    none_of : (other : List ClauseLine) → length other ≡ suc m → Each ClauseHeld other
        → first_lines (suc (suc j)) (drop at s) ≡ first_lines (suc (suc j)) (lines_text other) → ⊥
    none_of [] long each q = omega (arith, long)
    none_of (c ∷ cs) long each q =
        let first = lines-front (suc j) c cs in
        let own = (clause-here s at w ms next f).lines (suc j) in
        let rest : first_lines (suc j) (drop next s) ≡ first_lines (suc j) (lines_text cs) = cc in
        b.none cs (omega (arith, long)) each.1 rest

-- ---- a line that is not read

no-weight : (s : List ℕ) (at : ℕ) → number_at s at ≡ None → (c : ClauseLine) → ClauseHeld c → first_line (drop at s) ≡ ended (clause_bytes c) → ⊥
no-weight s at e c h q =
    let here = here-line s at (clause_bytes c) q in
    let read = weight-read s at c h here.0 here.1 in
    impossible (cc)

no-members : (s : List ℕ) (at w mid : ℕ) → number_at s at ≡ Some (w, mid) → members_from (length s) s mid ≡ broken_line
    → (c : ClauseLine) → ClauseHeld c → first_line (drop at s) ≡ ended (clause_bytes c) → ⊥
no-members s at w mid p e c h q =
    let here = here-line s at (clause_bytes c) q in
    let same = some-pair (sym p ∙ weight-read s at c h here.0 here.1) in
    let all = members-read s at c h here.0 here.1 in
    impossible (cc)

-- ---- what the lines are: all of the form, or some and then none

pub data RestShape (m : ℕ) (t : List ℕ) : Type 0 where
  ends : (lines : List ClauseLine) → length lines ≡ m → Each ClauseHeld lines → t ≡ lines_text lines → RestShape m t
  breaks : (j : ℕ) → RestBroken m t j → RestShape m t

shape-then : (s : List ℕ) (at m w : ℕ) (ms : List ℤ) (next : ℕ) → ClauseFound s at w ms next → RestShape m (drop next s) → RestShape (suc m) (drop at s)
unfolding lines_text
shape-then s at m w ms next f (breaks j b) = breaks (suc j) (clause-then s at m w ms next j f b)
shape-then s at m w ms next f (ends lines long held text) =
    ends (f.line ∷ lines) (ap suc long) (f.held, held)
    ((clause-here s at w ms next f).cut ∙ ap (λ (x : List ℕ). clause_bytes f.line ++ (line_feed ∷ x)) text)

-- a clause stands there, or no line of the form does
pub data ClauseShape (s : List ℕ) (at : ℕ) : Type 0 where
  read : (w : ℕ) (ms : List ℤ) (next : ℕ) → ClauseFound s at w ms next → ClauseShape s at
  unread : ((broken : Judged) (go : ℕ → List ℤ → ℕ → Judged) → on_clause s at broken go ≡ broken)
      → ((c : ClauseLine) → ClauseHeld c → first_line (drop at s) ≡ ended (clause_bytes c) → ⊥) → ClauseShape s at

pub clause-shape : (s : List ℕ) (at : ℕ) → ClauseShape s at
clause-shape s at = on-weight (number_at s at) refl
  where
    on-members : (w mid : ℕ) → number_at s at ≡ Some (w, mid) → (r : MembersRead) → members_from (length s) s mid ≡ r → ClauseShape s at
    on-members w mid p broken_line q = unread (λ broken go. rw p (rw q)) (no-members s at w mid p q)
    on-members w mid p (members ls next) q = read w ls next (clause-found s at w mid (length s) ls next p q)

    on-weight : (p : Option (ℕ × ℕ)) → number_at s at ≡ p → ClauseShape s at
    on-weight None p = unread (λ broken go. rw p) (no-weight s at p)
    on-weight (Some (w, mid)) p = on-members w mid p (members_from (length s) s mid) refl

pub rest-shape : (m : ℕ) (s : List ℕ) (at : ℕ) → at ≤ length s → RestShape m (drop at s)
unfolding lines_text
rest-shape zero s at l =
    ⊎_elim
    (λ (e : at ≡ length s). let past : length s ≤ at = omega arith in ends [] refl tt (drop_of_length-le s past))
    (λ e. breaks 0 (end-broken s at l e)) (eq-or-ne at (length s))
rest-shape (suc m) s at l = go (clause-shape s at) (λ next h. rest-shape m s next h)
  where
    go : ClauseShape s at → ((next : ℕ) → next ≤ length s → RestShape m (drop next s)) → RestShape (suc m) (drop at s)
    go (read w ms next f) ih = shape-then s at m w ms next f (ih next (clause-here s at w ms next f).inside)
    go (unread e h) ih = breaks 0 (clause-broken s at m h)
