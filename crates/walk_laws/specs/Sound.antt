-- Nodes, the leaves below them, and what a bound owes there. Document 01's nodes are one kind; another order or another bound has the
-- same, and a walk from elsewhere may have its own.
use Rattle.std.specs.Prelude.{ℕ, ◌^◌, ◌≤◌, ◌<◌, ◌≡◌, List, [], ◌∷◌, Bool}
use Rattle.std.specs.Int.Bits.{bit_and}
use Rattle.masks.specs.Masks.{without}
use Rattle.rules.specs.declared.Part.{Part}
use Rattle.rules.specs.Walk.{fixed, undecided}

-- q is a leaf below a node, whatever the order
pub data Below : List ℕ → Part → Part → Type 0 where
  here : {p : Part} → Below [] p p
  there : {v : ℕ} {vs : List ℕ} {p q : Part} (value : Bool) → Below vs (fixed p v value) q → Below (v ∷ vs) p q

-- What a bound owes, at every node of a kind that fixing a variable does not leave: it is at most what each leaf below weighs, and
-- at a leaf it is what the leaf's reading weighs.
pub record Sound (nodes : List ℕ → Part → Type 0) (bound : Part → ℕ) (weight : ℕ → ℕ) : Type 0 where
  pub deeper : {v : ℕ} {vs : List ℕ} {p : Part} → nodes (v ∷ vs) p → (value : Bool) → nodes vs (fixed p v value)
  pub at_most : {vs : List ℕ} {p q : Part} → nodes vs p → Below vs p q → bound p ≤ weight q.truths
  pub at_leaf : {p : Part} → nodes [] p → bound p ≡ weight p.truths

-- a full reading that gives the decided variables of a partial one the values they have there
abbrev pub Extends : Part → ℕ → Type 0
Extends p reading = bit_and reading p.decided ≡ p.truths

-- A node of document 01's walk over n variables: what is true is decided, what is decided is a variable, and the variables left are
-- those that are not, in rising order.
pub record Node (n : ℕ) (vs : List ℕ) (p : Part) : Type 0 where
  pub fits : n ≤ 64
  pub nested : without p.truths p.decided ≡ 0
  pub within : p.decided < 2 ^ n
  pub left : undecided n p.decided ≡ vs
