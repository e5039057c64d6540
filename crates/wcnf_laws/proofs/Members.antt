-- The literals of a clause depend on its members alone, and so does the table on top and on the weights and members of the clauses.
use Rattle.std.specs.Prelude.{Option, Some, None, Ok}
use Prim.Native.Nat.{ℕ, zero, suc}
use mathlib.Core.Path.{◌≡◌, refl, sym, ap, ap₂, ◌∙◌}
use mathlib.Core.List.{List, [], ◌∷◌, ◌++◌, Memᴰ}
use lib.IntN.{ℤ}
use Rattle.literals.specs.declared.Lits.{Lits}
use Rattle.literals.specs.Literal.{lits_of}
use Rattle.literals.specs.Lits.{together}
use Rattle.literals.proofs.TwoMasks.{none-together, together-comm, together-self, together-assoc}
use lib.ListN.{length, drop}
use Rattle.rules.specs.Table.{row_words_of}
use Rattle.rules.specs.Reader.{number_at, on_number}
use Rattle.rules.specs.WcnfReader.{MembersRead, members, broken_line, on_members, lits_of_members, members_from, clause_row, clauses_words}
use Rattle.rules.specs.WcnfReader.{wcnf_read_why, wcnf_words, wcnf_read, wcnf_table}
use Rattle.rules.proofs.Judging.{words-fine}
use Rattle.wcnf_laws.specs.Members.{SameMembers, SameClauses, none, next}
use Rattle.wcnf_laws.specs.Said.{clauses_at, SaysSame}

-- a member is among the literals already
pub member-held : (l : ℤ) (ls : List ℤ) → Memᴰ l ls → together (lits_of l) (lits_of_members ls) ≡ lits_of_members ls
unfolding lits_of_members
member-held l [] m = elim m [ ]
member-held l (x ∷ xs) (Memᴰ.head e) =
    rw e (sym (together-assoc (lits_of x) (lits_of x) (lits_of_members xs)) ∙ ap (λ (k : Lits). together k (lits_of_members xs)) (together-self (lits_of x)))
member-held l (x ∷ xs) (Memᴰ.tail m) =
    sym (together-assoc (lits_of l) (lits_of x) (lits_of_members xs))
    ∙ ap (λ (k : Lits). together k (lits_of_members xs)) (together-comm (lits_of l) (lits_of x))
    ∙ together-assoc (lits_of x) (lits_of l) (lits_of_members xs)
    ∙ ap (together (lits_of x)) (member-held l xs m)

-- and so are all members of a part
part_held : (ls ms : List ℤ) → ((l : ℤ) → Memᴰ l ls → Memᴰ l ms) → together (lits_of_members ls) (lits_of_members ms) ≡ lits_of_members ms
unfolding lits_of_members
part_held [] ms h = none-together (lits_of_members ms)
part_held (l ∷ ls) ms h =
    together-assoc (lits_of l) (lits_of_members ls) (lits_of_members ms)
    ∙ ap (together (lits_of l)) (part_held ls ms (λ k m. h k (Memᴰ.tail m)))
    ∙ member-held l ms (h l (Memᴰ.head refl))

-- "one given twice counts once", "in any order"
pub members-same : (ls ms : List ℤ) → SameMembers ls ms → lits_of_members ls ≡ lits_of_members ms
members-same ls ms same =
    sym (part_held ms ls same.back) ∙ together-comm (lits_of_members ms) (lits_of_members ls) ∙ part_held ls ms same.there

-- ---- the table

-- the words that clauses make under a top
unfoldable pub words_of_clauses : ℕ → List (ℕ × List ℤ) → List ℕ
words_of_clauses top [] = []
words_of_clauses top (c ∷ cs) = row_words_of (clause_row top c.0 (lits_of_members c.1)) ++ words_of_clauses top cs

pub clauses-same : (top : ℕ) {cs ds : List (ℕ × List ℤ)} → SameClauses cs ds → words_of_clauses top cs ≡ words_of_clauses top ds
unfolding words_of_clauses
clauses-same top none = refl
clauses-same top (next w ls ms same rest) =
    ap₂ (λ (l : Lits) (more : List ℕ). row_words_of (clause_row top w l) ++ more) (members-same ls ms same) (clauses-same top rest)

module _ (top : ℕ) (s : List ℕ) (m : ℕ) (ih : (at : ℕ) → clauses_words m top s at ≡ words_of_clauses top (clauses_at m s at)) where
  of_members : (w : ℕ) (r : MembersRead)
      → on_members r [] (λ ls at. row_words_of (clause_row top w (lits_of_members ls)) ++ clauses_words m top s at) ≡ words_of_clauses top
      (on_members r [] (λ ls at. (w, ls) ∷ clauses_at m s at))
  unfolding words_of_clauses
  of_members w (members ls at) = ap (λ (more : List ℕ). row_words_of (clause_row top w (lits_of_members ls)) ++ more) (ih at)
  of_members w broken_line = refl

  of_number : (p : Option (ℕ × ℕ))
      → on_number p [] (λ w at. on_members (members_from (length s) s at) [] (λ ls at. row_words_of (clause_row top w (lits_of_members ls)) ++ clauses_words m top s at))
      ≡ words_of_clauses top (on_number p [] (λ w at. on_members (members_from (length s) s at) [] (λ ls at. (w, ls) ∷ clauses_at m s at)))
  unfolding words_of_clauses
  of_number (Some (w, at)) = of_members w (members_from (length s) s at)
  of_number None = refl

-- the words of a text are those of its clauses
pub words-of-clauses : (m top : ℕ) (s : List ℕ) (at : ℕ) → clauses_words m top s at ≡ words_of_clauses top (clauses_at m s at)
unfolding clauses_words clauses_at words_of_clauses
words-of-clauses zero top s at = refl
words-of-clauses (suc m) top s at = of_number top s m (words-of-clauses m top s) (number_at s at)

-- ---- two texts that say the same

module _ (s t : List ℕ) (same : SaysSame s t) where
  pub same-words : wcnf_words s ≡ wcnf_words t
  unfolding wcnf_words
  same-words =
      rw (same.here, same.there)
      (words-of-clauses same.clauses same.top s same.next_here ∙ clauses-same same.top same.same
      ∙ sym (words-of-clauses same.clauses same.top t same.next-there))

  -- where both are accepted, they are answered alike and leave the same words
  pub same_answer : (most room : ℕ) → wcnf_read_why most s room ≡ Ok tt → wcnf_read_why most t room ≡ Ok tt → wcnf_read most s room ≡ wcnf_read most t room
  unfolding wcnf_read
  same_answer most room p q = rw (p, q, same.here, same.there)

  pub same-table : (most : ℕ) (lent : List ℕ) → wcnf_read_why most s (length lent) ≡ Ok tt → wcnf_read_why most t (length lent) ≡ Ok tt
      → wcnf_table most s lent ≡ wcnf_table most t lent
  unfolding wcnf_table
  same-table most lent p q =
      words-fine (wcnf_read_why most s (length lent)) (wcnf_words s ++ drop (length (wcnf_words s)) lent) lent p
      ∙ ap (λ (words : List ℕ). words ++ drop (length words) lent) same-words
      ∙ sym (words-fine (wcnf_read_why most t (length lent)) (wcnf_words t ++ drop (length (wcnf_words t)) lent) lent q)
