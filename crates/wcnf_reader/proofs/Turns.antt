-- The clauses, one at a time: what the judgement and the words come to behind a clause that was read, and behind one that breaks the form.
use Rattle.std.specs.Prelude.{Option, Some, None, Ok, Err}
use Prim.Native.Nat.{ℕ, zero, suc, ◌+◌, ◌-◌, ◌*◌, ◌<◌, ◌≤◌}
use mathlib.Core.Path.{◌≡◌, refl, ap, ◌∙◌}
use mathlib.Core.Bool.{Bool, true, false}
use mathlib.Core.List.{List, [], ◌++◌}
use native.Mathlib.Omega.{arith}
use lib.Dec.{eqb}
use lib.IntN.{ℤ}
use lib.ListN.{length, length-append}
use lib.Seq.{sets}
use Rattle.masks.proofs.Choice.{impossible, some-same}
use Rattle.masks.proofs.Words.{sets-append}
use Rattle.literals.specs.declared.Lits.{Lits}
use Rattle.rules.specs.declared.Row.{Row}
use Rattle.rules.specs.declared.Refusal.TheVariants.{BadText, BadLiterals}
use Rattle.rules.specs.Reader.{number_at, on_number}
use Rattle.rules.specs.Table.{row_words, row_words_of}
use Rattle.rules.specs.WcnfReader.{MembersRead, members, broken_line, members_from, on_members, on_clause, lits_of_members, bad_members}
use Rattle.rules.specs.WcnfReader.{clauses_why, clause_row, clauses_words}
use Rattle.text_laws.proofs.RowWords.{row_words_lem}
use Rattle.wcnf_pieces.specs.declared.ClauseRead.{ClauseRead}
use Rattle.wcnf_pieces.specs.Clauses.{clause_at}

-- ---- what a clause that was read is

-- a clause of this weight, by its members
abbrev behind : ℕ → ℕ → MembersRead → Option ClauseRead
behind variables w r = on_members r None (λ ls end. Some (record { weight = w; lits = lits_of_members ls; bad = bad_members variables ls; next = end }))

pub record Told (variables : ℕ) (s : List ℕ) (at w : ℕ) (lits : Lits) (bad : Bool) (next : ℕ) : Type 0 where
  pub middle : ℕ
  pub signed : List ℤ
  pub number : number_at s at ≡ Some (w, middle)
  pub read : members_from (length s) s middle ≡ members signed next
  pub made : lits_of_members signed ≡ lits
  pub judged : bad_members variables signed ≡ bad

pub told : (variables : ℕ) (s : List ℕ) (at w : ℕ) (lits : Lits) (bad : Bool) (next : ℕ)
    → clause_at variables s at ≡ Some (record { weight = w; lits = lits; bad = bad; next = next }) → Told variables s at w lits bad next
unfolding clause_at
told variables s at w lits bad next e = weight (number_at s at) refl e
  where
    signs : (v mid : ℕ) → number_at s at ≡ Some (v, mid) → (r : MembersRead) → members_from (length s) s mid ≡ r
        → behind variables v r ≡ Some (record { weight = w; lits = lits; bad = bad; next = next }) → Told variables s at w lits bad next
    signs v mid n (members ls end) m h =
        let same = some-same h in
        record {
          middle = mid;
          signed = ls;
          number = n ∙ ap (λ (c : ClauseRead). Some (c.weight, mid)) same;
          read = m ∙ ap (λ (c : ClauseRead). members ls c.next) same;
          made = ap (λ (c : ClauseRead). c.lits) same;
          judged = ap (λ (c : ClauseRead). c.bad) same;
        }
    signs v mid n broken_line m h = impossible (cc)

    weight : (p : Option (ℕ × ℕ)) → number_at s at ≡ p
        → on_number p None (λ v mid. behind variables v (members_from (length s) s mid)) ≡ Some (record { weight = w; lits = lits; bad = bad; next = next })
        → Told variables s at w lits bad next
    weight (Some (v, mid)) n h = signs v mid n (members_from (length s) s mid) refl h
    weight None n h = impossible (cc)

-- and one that breaks the form
broken-clause : {A : Type 0} (variables : ℕ) (s : List ℕ) (at : ℕ) (broken : A) (go : ℕ → List ℤ → ℕ → A) → clause_at variables s at ≡ None
    → on_clause s at broken go ≡ broken
unfolding clause_at
broken-clause {A} variables s at broken go e = weight (number_at s at) e
  where
    signs : (w : ℕ) (r : MembersRead) → behind variables w r ≡ None → on_members r broken (go w) ≡ broken
    signs w (members ls end) h = impossible (cc)
    signs w broken_line h = refl

    weight : (p : Option (ℕ × ℕ)) → on_number p None (λ w mid. behind variables w (members_from (length s) s mid)) ≡ None
        → on_number p broken (λ w mid. on_members (members_from (length s) s mid) broken (go w)) ≡ broken
    weight (Some (w, mid)) h = signs w (members_from (length s) s mid) h
    weight None h = refl

-- ---- line by line 20, 5

module _ (k i variables : ℕ) (s : List ℕ) (at line : ℕ) where
  pub why-broken : clause_at variables s at ≡ None → clauses_why (suc k) i variables s at line ≡ Err (BadText line)
  unfolding clauses_why
  why-broken e = broken-clause variables s at (Err (BadText line)) _ e

  module _ (w : ℕ) (lits : Lits) (bad : Bool) (next : ℕ)
      (e : clause_at variables s at ≡ Some (record { weight = w; lits = lits; bad = bad; next = next })) where
    pub why-bad : bad ≡ true → clauses_why (suc k) i variables s at line ≡ Err (BadLiterals i)
    unfolding clauses_why
    why-bad b = let t = told variables s at w lits bad next e in rw (t.number, t.read, t.judged, b)

    pub why-next : bad ≡ false → clauses_why (suc k) i variables s at line ≡ clauses_why k (suc i) variables s next (line + 1)
    unfolding clauses_why
    why-next b = let t = told variables s at w lits bad next e in rw (t.number, t.read, t.judged, b)

-- and that nothing follows
module _ (i variables : ℕ) (s : List ℕ) (at line : ℕ) where
  pub why-end : eqb at (length s) ≡ true → clauses_why 0 i variables s at line ≡ Ok tt
  unfolding clauses_why
  why-end e = rw e

  pub why-surplus : eqb at (length s) ≡ false → clauses_why 0 i variables s at line ≡ Err (BadText line)
  unfolding clauses_why
  why-surplus e = rw e

-- ---- the words

module _ (k variables top : ℕ) (s : List ℕ) (at : ℕ) where
  pub words-broken : clause_at variables s at ≡ None → clauses_words (suc k) top s at ≡ []
  unfolding clauses_words
  words-broken e = broken-clause variables s at [] _ e

  pub words-next : (w : ℕ) (lits : Lits) (bad : Bool) (next : ℕ)
      → clause_at variables s at ≡ Some (record { weight = w; lits = lits; bad = bad; next = next })
      → clauses_words (suc k) top s at ≡ row_words_of (clause_row top w lits) ++ clauses_words k top s next
  unfolding clauses_words
  words-next w lits bad next e = let t = told variables s at w lits bad next e in rw (t.number, t.read, t.made)

pub words-none : (top : ℕ) (s : List ℕ) (at : ℕ) → clauses_words 0 top s at ≡ []
unfolding clauses_words
words-none top s at = refl

-- stored behind those that are: the words of the clauses from clause i on, of m
module _ (top : ℕ) (s : List ℕ) (m i at : ℕ) (table : List ℕ) where
  pub left-broken : (variables : ℕ) → i < m → clause_at variables s at ≡ None
      → sets table (row_words * i) (clauses_words (m - i) top s at) ≡ table
  left-broken variables h e =
      let left : m - i ≡ suc (m - (i + 1)) = omega arith in
      rw (left, words-broken (m - (i + 1)) variables top s at e)

  pub left-stored : (variables w : ℕ) (lits : Lits) (bad : Bool) (next : ℕ) (row : Row) → i < m
      → clause_at variables s at ≡ Some (record { weight = w; lits = lits; bad = bad; next = next }) → row ≡ clause_row top w lits
      → sets (sets table (row_words * i) (row_words_of row)) (row_words * (i + 1)) (clauses_words (m - (i + 1)) top s next)
      ≡ sets table (row_words * i) (clauses_words (m - i) top s at)
  left-stored variables w lits bad next row h e r =
      let left : m - i ≡ suc (m - (i + 1)) = omega arith in
      let behind : row_words * (i + 1) ≡ row_words * i + length (row_words_of row) = rw (row_words_lem row) (omega arith) in
      rw (left, words-next (m - (i + 1)) variables top s at w lits bad next e, ← r, behind)
      (sets-append table (row_words * i) (row_words_of row) (clauses_words (m - (i + 1)) top s next))

  pub left-none : m ≤ i → sets table (row_words * i) (clauses_words (m - i) top s at) ≡ table
  left-none h = let none : m - i ≡ 0 = omega arith in rw (none, words-none top s at)

pub words-length : (m top : ℕ) (s : List ℕ) (at : ℕ) → length (clauses_words m top s at) ≤ row_words * m
unfolding clauses_words
words-length zero top s at = omega arith
words-length (suc m) top s at = weight (words-length m top s) (number_at s at)
  where
    signs : ((next : ℕ) → length (clauses_words m top s next) ≤ row_words * m) → (w : ℕ) (r : MembersRead)
        → length (on_members r [] (λ ls next. row_words_of (clause_row top w (lits_of_members ls)) ++ clauses_words m top s next)) ≤ row_words * suc m
    signs ih w (members ls next) =
        let row = clause_row top w (lits_of_members ls) in
        rw (length-append (row_words_of row) (clauses_words m top s next), row_words_lem row) (omega (arith, ih next))
    signs ih w broken_line = omega arith

    weight : ((next : ℕ) → length (clauses_words m top s next) ≤ row_words * m) → (p : Option (ℕ × ℕ))
        → length (on_number p [] (λ w mid. on_members (members_from (length s) s mid) [] (λ ls next.
        row_words_of (clause_row top w (lits_of_members ls)) ++ clauses_words m top s next))) ≤ row_words * suc m
    weight ih (Some (w, mid)) = signs ih w (members_from (length s) s mid)
    weight ih None = omega arith
