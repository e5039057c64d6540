-- Two texts that say the same, in the reader's own words: its header, and its clauses in the order in which they stand.
use Rattle.std.specs.Prelude.{ℕ, zero, suc, ◌≡◌, List, [], ◌∷◌, ℤ, length, Ok}
use Rattle.rules.specs.WcnfReader.{on_clause, header_of, wcnf_read_why, wcnf_words, wcnf_read, wcnf_table, header_says}
use Rattle.wcnf_laws.specs.Members.{SameClauses}

-- the clauses of m lines from a place on: of each its weight and its members, in the order in which they stand
unfoldable pub clauses_at : ℕ → List ℕ → ℕ → List (ℕ × List ℤ)
clauses_at zero s at = []
clauses_at (suc m) s at = on_clause s at [] (λ w ls next. (w, ls) ∷ clauses_at m s next)

-- Two texts say the same: the same figures and the same clauses. Comments and spaces are none of it.
pub record SaysSame (s t : List ℕ) : Type 0 where
  pub variables : ℕ
  pub clauses : ℕ
  pub top : ℕ
  pub next_here : ℕ
  pub next-there : ℕ
  pub line-here : ℕ
  pub line-there : ℕ
  pub here : header_of s ≡ Ok (header_says variables clauses top next_here line-here)
  pub there : header_of t ≡ Ok (header_says variables clauses top next-there line-there)
  pub same : SameClauses (clauses_at clauses s next_here) (clauses_at clauses t next-there)

-- where both are accepted, they are answered alike and leave the same words
pub record SameRead (s t : List ℕ) : Type 0 where
  pub words : wcnf_words s ≡ wcnf_words t
  pub answer : (most room : ℕ) → wcnf_read_why most s room ≡ Ok tt → wcnf_read_why most t room ≡ Ok tt → wcnf_read most s room ≡ wcnf_read most t room
  pub table : (most : ℕ) (lent : List ℕ) → wcnf_read_why most s (length lent) ≡ Ok tt → wcnf_read_why most t (length lent) ≡ Ok tt
      → wcnf_table most s lent ≡ wcnf_table most t lent
