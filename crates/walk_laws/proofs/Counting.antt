-- The count of nodes: never above the budget, at the budget where the walk is stopped, and risen by 1 at least where a node is entered.
-- A walk that is not stopped was refused no node, so that a larger budget changes nothing in it.
-- All by induction on the variables left, with the three ways in which a node that is due can go.
use Prim.Native.Nat.{ℕ, suc, ◌+◌, ◌^◌, ◌≤◌, ◌<◌}
use mathlib.Core.Path.{◌≡◌, refl, ap, ◌∙◌}
use mathlib.Core.List.{List, [], ◌∷◌}
use mathlib.Core.Bool.{Bool, false, not}
use native.Mathlib.Nat.{pow-suc}
use native.Mathlib.Omega.{arith}
use lib.ListN.{length}
use lib.Pow.{pow_pos}
use Rattle.masks.proofs.Choice.{clash}
use Rattle.rules.specs.declared.Part.{Part}
use Rattle.rules.specs.declared.Walked.{Walked}
use Rattle.rules.specs.Walk.{fixed, visited, kept_at, halted, entering, walk}
use Rattle.walk_laws.specs.Scan.{WithinBudget}
use Rattle.walk_laws.proofs.Branches.{enter-cut, enter-on}
use Rattle.walk_laws.proofs.Walks.{entered, was-running}

module _ (bound : Part → ℕ) (first : ℕ → Bool) (budget : ℕ) where
  -- ---- never above the budget, and at it where stopped

  pub counted : (vs : List ℕ) (p : Part) (s : Walked) → WithinBudget budget s → WithinBudget budget (walk bound first budget vs p s)
  unfolding walk visited kept_at halted
  counted [] p s h =
      entered (WithinBudget budget) budget (bound p) s (kept_at (bound p) p.truths (visited s))
      (λ r. record { within = h.within; at_stop = λ e. omega (arith, h.within) })
      (λ r c. record { within = omega arith; at_stop = λ e. absurd (omega (arith, h.at_stop e)) })
      (λ r c. record { within = omega arith; at_stop = λ e. absurd (omega (arith, h.at_stop e)) })
  counted (v ∷ vs) p s h =
      entered (WithinBudget budget) budget (bound p) s
      (walk bound first budget vs (fixed p v (not (first v))) (walk bound first budget vs (fixed p v (first v)) (visited s)))
      (λ r. record { within = h.within; at_stop = λ e. omega (arith, h.within) })
      (λ r c. record { within = omega arith; at_stop = λ e. absurd (omega (arith, h.at_stop e)) })
      (λ r c.
      counted vs (fixed p v (not (first v))) (walk bound first budget vs (fixed p v (first v)) (visited s))
      (counted vs (fixed p v (first v)) (visited s)
      (record { within = omega arith; at_stop = λ e. absurd (omega (arith, h.at_stop e)) })))

  -- ---- the count rises

  pub no-fewer : (vs : List ℕ) (p : Part) (s : Walked) → s.nodes ≤ (walk bound first budget vs p s).nodes
  unfolding walk visited kept_at halted
  no-fewer [] p s =
      entered (λ (w : Walked). s.nodes ≤ w.nodes) budget (bound p) s (kept_at (bound p) p.truths (visited s))
      (λ r. omega arith) (λ r c. omega arith) (λ r c. omega arith)
  no-fewer (v ∷ vs) p s =
      let one : Walked = walk bound first budget vs (fixed p v (first v)) (visited s) in
      entered (λ (w : Walked). s.nodes ≤ w.nodes) budget (bound p) s (walk bound first budget vs (fixed p v (not (first v))) one)
      (λ r. omega arith) (λ r c. omega arith)
      (λ r c. omega (arith, no-fewer vs (fixed p v (first v)) (visited s), no-fewer vs (fixed p v (not (first v))) one))

  -- a node that is entered is counted
  pub rises : (vs : List ℕ) (p : Part) (s : Walked) → s.nodes < budget → s.nodes < (walk bound first budget vs p s).nodes
  unfolding walk visited kept_at halted
  rises [] p s h =
      entered (λ (w : Walked). s.nodes < w.nodes) budget (bound p) s (kept_at (bound p) p.truths (visited s))
      (λ r. omega arith) (λ r c. omega arith) (λ r c. omega arith)
  rises (v ∷ vs) p s h =
      let one : Walked = walk bound first budget vs (fixed p v (first v)) (visited s) in
      entered (λ (w : Walked). s.nodes < w.nodes) budget (bound p) s (walk bound first budget vs (fixed p v (not (first v))) one)
      (λ r. omega arith) (λ r c. omega arith)
      (λ r c. omega (arith, no-fewer vs (fixed p v (first v)) (visited s), no-fewer vs (fixed p v (not (first v))) one))

  -- with u variables left, at most 2 to the power u + 1, less 1
  pub at-most : (vs : List ℕ) (p : Part) (s : Walked) → (walk bound first budget vs p s).nodes < s.nodes + 2 ^ suc (length vs)
  unfolding walk visited kept_at halted
  at-most [] p s =
      entered (λ (w : Walked). w.nodes < s.nodes + 2 ^ 1) budget (bound p) s (kept_at (bound p) p.truths (visited s))
      (λ r. omega arith) (λ r c. omega arith) (λ r c. omega arith)
  at-most (v ∷ vs) p s =
      let one : Walked = walk bound first budget vs (fixed p v (first v)) (visited s) in
      let twice = pow-suc 2 (suc (length vs)) in
      let power = pow_pos (suc (length vs)) in
      entered (λ (w : Walked). w.nodes < s.nodes + 2 ^ suc (suc (length vs))) budget (bound p) s
      (walk bound first budget vs (fixed p v (not (first v))) one)
      (λ r. omega arith) (λ r c. omega arith)
      (λ r c. omega (arith, at-most vs (fixed p v (first v)) (visited s), at-most vs (fixed p v (not (first v))) one))

-- ---- a larger budget

module _ (bound : Part → ℕ) (first : ℕ → Bool) (budget more : ℕ) (larger : budget ≤ more) where
  pub same-with-more : (vs : List ℕ) (p : Part) (s : Walked) → (walk bound first budget vs p s).stopped ≡ false
      → walk bound first more vs p s ≡ walk bound first budget vs p s
  unfolding walk visited kept_at halted
  same-with-more [] p s =
      entered
      (λ (w : Walked). w.stopped ≡ false → entering more (bound p) s (kept_at (bound p) p.truths (visited s)) ≡ w)
      budget (bound p) s (kept_at (bound p) p.truths (visited s))
      (λ r e. absurd (clash refl e))
      (λ r c e. enter-cut more (bound p) s _ (omega arith) c)
      (λ r c e. enter-on more (bound p) s _ (omega arith) c)
  same-with-more (v ∷ vs) p s =
      let p₁ : Part = fixed p v (first v) in
      let p₂ : Part = fixed p v (not (first v)) in
      let one : Walked = walk bound first budget vs p₁ (visited s) in
      let one' : Walked = walk bound first more vs p₁ (visited s) in
      entered
      (λ (w : Walked). w.stopped ≡ false → entering more (bound p) s (walk bound first more vs p₂ one') ≡ w)
      budget (bound p) s (walk bound first budget vs p₂ one)
      (λ r e. absurd (clash refl e))
      (λ r c e. enter-cut more (bound p) s _ (omega arith) c)
      (λ r c e.
      enter-on more (bound p) s _ (omega arith) c
      ∙ ap (walk bound first more vs p₂) (same-with-more vs p₁ (visited s) (was-running bound first budget vs p₂ one e))
      ∙ same-with-more vs p₂ one e)
