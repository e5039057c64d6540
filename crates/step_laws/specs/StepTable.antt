-- Document 01's step table once more, row by row, over literals as signed numbers: which remnants a kind names, and what it gives.
-- The definitions of `rules` find the literals out by recursion; that they say the same is a law of this crate and promised.
use Rattle.std.specs.Prelude.{ℕ, zero, suc, ◌+◌, ◌≤◌, ◌<◌, ◌≡◌, true, false, List, [], ◌∷◌, ◌++◌, ℤ, length, get_or}
use Rattle.std.specs.Int.Bits.{bit_and}
use Rattle.literals.specs.declared.Lits.{Lits}
use Rattle.literals.specs.Literal.{size, is_literal, opposite, bit_of, lits_of}
use Rattle.literals.specs.Lits.{no_lits, together, variables_of}
use Rattle.rules.specs.Table.{is_hard}
use Rattle.rules.specs.Desk.{row_on, decisions, satisfied, spent}
use Rattle.rules.specs.Steps.{remnant_of}

-- (a, b): "A remnant holds just the literals shown, each on a variable of its own"
pub record Pair (r : Lits) (a b : ℤ) : Type 0 where
  pub whole : r ≡ together (lits_of a) (lits_of b)
  pub own : size a ≡ size b → ⊥

-- l1; k rows (not li, l(i+1)), where l1 is l 0
pub record Linked (f : ℕ → Lits) (k : ℕ) (l : ℕ → ℤ) : Type 0 where
  pub literals : (i : ℕ) → i ≤ k → is_literal (l i) ≡ true
  pub first : f 0 ≡ lits_of (l 0)
  pub rows : (i : ℕ) → i < k → Pair (f (suc i)) (opposite (l i)) (l (suc i))

-- k rows (li, not l(i+1))
unfoldable pub between : (ℕ → ℤ) → ℕ → List Lits
between l zero = []
between l (suc k) = between l k ++ (together (lits_of (l k)) (lits_of (opposite (l (suc k)))) ∷ [])

-- The remnants of so many rows fit a kind, which then gives these rows.
pub data Fits (f : ℕ → Lits) : ℕ → ℕ → List Lits → Type 0 where
  -- two, alike but for one variable, of opposite signs: the common rest
  merge : (a : ℤ) (rest : Lits) → is_literal a ≡ true → bit_and (variables_of rest) (bit_of a) ≡ 0
      → f 0 ≡ together rest (lits_of a) → f 1 ≡ together rest (lits_of (opposite a)) → Fits f 1 2 (rest ∷ [])
  -- l1; (not l1, l2): (l1, not l2); l2
  shift : (l : ℕ → ℤ) → Linked f 1 l → Fits f 2 2 (together (lits_of (l 0)) (lits_of (opposite (l 1))) ∷ lits_of (l 1) ∷ [])
  -- l1; k rows (not li, l(i+1)); not l(k+1): empty; k rows (li, not l(i+1))
  chain : (l : ℕ → ℤ) (k : ℕ) → Linked f k l → f (k + 1) ≡ lits_of (opposite (l k)) → Fits f 3 (suc (suc k)) (no_lits ∷ between l k)
  -- l1; k rows (not li, l(i+1)); (not a, b); (not a, c); (not b, not c), a = l(k+1): empty; k rows (li, not l(i+1)); (a, not b, not c); (not a, b, c)
  fork : (l : ℕ → ℤ) (k : ℕ) (b c : ℤ) → Linked f k l → is_literal b ≡ true → is_literal c ≡ true
      → Pair (f (k + 1)) (opposite (l k)) b → Pair (f (k + 2)) (opposite (l k)) c → Pair (f (k + 3)) (opposite b) (opposite c)
      → Fits f 4 (k + 4) (no_lits ∷ (between l k
      ++ (together (lits_of (l k)) (together (lits_of (opposite b)) (lits_of (opposite c)))
      ∷ together (lits_of (opposite (l k))) (together (lits_of b) (lits_of c)) ∷ [])))

-- The named rows of a desk fit a line of the table, which gives these rows: none is hard, spent or satisfied, and their remnants are the line's.
pub record FitsALine (d : List ℕ) (kind : ℕ) (named : List ℕ) (gives : List Lits) : Type 0 where
  pub soft : (i : ℕ) → i < length named → is_hard (row_on d (get_or named i 0)) ≡ false
  pub unspent : (i : ℕ) → i < length named → spent (row_on d (get_or named i 0)) ≡ false
  pub unsatisfied : (i : ℕ) → i < length named → satisfied (decisions d) (row_on d (get_or named i 0)).lits ≡ false
  pub line : Fits (remnant_of d named) kind (length named) gives
