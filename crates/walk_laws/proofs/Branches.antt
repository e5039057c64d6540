-- The walk, one way at a time: refused by the budget, cut, at a leaf, or with two branches. Each law names the tests that lead there, so
-- that code which takes the same tests in the same order meets the definition.
use Prim.Native.Nat.{ℕ, ◌≤◌, ◌<◌}
use mathlib.Core.Path.{◌≡◌}
use mathlib.Core.List.{List, [], ◌∷◌}
use mathlib.Core.Bool.{Bool, not}
use borrow.Author.Tests.{lt-ltb, le-ltb, le-leb, lt-leb}
use Rattle.rules.specs.declared.Part.{Part}
use Rattle.rules.specs.declared.Walked.{Walked}
use Rattle.rules.specs.Walk.{fixed, visited, kept_at, halted, entering, walk}

pub enter-refused : (budget b : ℕ) (s beyond : Walked) → budget ≤ s.nodes → entering budget b s beyond ≡ halted s
enter-refused budget b s beyond r = rw (le-ltb s.nodes budget r)

pub enter-cut : (budget b : ℕ) (s beyond : Walked) → s.nodes < budget → s.best ≤ b → entering budget b s beyond ≡ visited s
enter-cut budget b s beyond r c = rw (lt-ltb s.nodes budget r, le-leb s.best b c)

pub enter-on : (budget b : ℕ) (s beyond : Walked) → s.nodes < budget → b < s.best → entering budget b s beyond ≡ beyond
enter-on budget b s beyond r c = rw (lt-ltb s.nodes budget r, lt-leb s.best b c)

module _ (bound : Part → ℕ) (first : ℕ → Bool) (budget : ℕ) where
  pub walk_refused : (vs : List ℕ) (p : Part) (s : Walked) → budget ≤ s.nodes → walk bound first budget vs p s ≡ halted s
  unfolding walk
  walk_refused [] p s r = enter-refused budget (bound p) s _ r
  walk_refused (v ∷ vs) p s r = enter-refused budget (bound p) s _ r

  pub walk-cut : (vs : List ℕ) (p : Part) (s : Walked) → s.nodes < budget → s.best ≤ bound p → walk bound first budget vs p s ≡ visited s
  unfolding walk
  walk-cut [] p s r c = enter-cut budget (bound p) s _ r c
  walk-cut (v ∷ vs) p s r c = enter-cut budget (bound p) s _ r c

  pub walk-leaf : (p : Part) (s : Walked) → s.nodes < budget → bound p < s.best
      → walk bound first budget [] p s ≡ kept_at (bound p) p.truths (visited s)
  unfolding walk
  walk-leaf p s r c = enter-on budget (bound p) s _ r c

  pub walk-branches : (v : ℕ) (vs : List ℕ) (p : Part) (s : Walked) → s.nodes < budget → bound p < s.best
      → walk bound first budget (v ∷ vs) p s
      ≡ walk bound first budget vs (fixed p v (not (first v))) (walk bound first budget vs (fixed p v (first v)) (visited s))
  unfolding walk
  walk-branches v vs p s r c = enter-on budget (bound p) s _ r c
