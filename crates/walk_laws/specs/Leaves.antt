-- The leaves of a walk in its order, all of them, and those that it meets within its budget; over any bound and any value tried first.
use Rattle.std.specs.Prelude.{ℕ, List, [], ◌∷◌, ◌++◌, Bool, not, cond, leb, ltb}
use Rattle.rules.specs.declared.Part.{Part}
use Rattle.rules.specs.declared.Walked.{Walked}
use Rattle.rules.specs.Walk.{fixed, visited, walk}

-- all full readings below a node whose variables left are vs: the value tried first, then the other
unfoldable pub leaves : (ℕ → Bool) → List ℕ → Part → List Part
leaves first [] p = p ∷ []
leaves first (v ∷ vs) p = leaves first vs (fixed p v (first v)) ++ leaves first vs (fixed p v (not (first v)))

-- the leaves that the walk visits and does not cut before its budget is used up, in order
unfoldable pub met : (Part → ℕ) → (ℕ → Bool) → ℕ → List ℕ → Part → Walked → List Part
met bound first budget [] p s = cond (ltb s.nodes budget) (cond (leb s.best (bound p)) [] (p ∷ [])) []
met bound first budget (v ∷ vs) p s =
    let other = walk bound first budget vs (fixed p v (first v)) (visited s) in
    let one = met bound first budget vs (fixed p v (first v)) (visited s) in
    let two = met bound first budget vs (fixed p v (not (first v))) other in
    let both = one ++ two in
    cond (ltb s.nodes budget) (cond (leb s.best (bound p)) [] both) []
