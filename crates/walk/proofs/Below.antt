-- The walk below a node, as the code takes it: the next variable is the lowest that is left, so that it heads the list of those left,
-- and with it fixed the list is one shorter.
use Prim.Native.Nat.{ℕ, ◌≤◌, ◌<◌}
use mathlib.Core.Path.{◌≡◌, sym, ap, ap₂, ◌∙◌}
use mathlib.Core.List.{List, [], ◌∷◌}
use mathlib.Core.Bool.{Bool, not}
use native.Mathlib.Omega.{arith}
use lib.Bits.{bit_or}
use lib.ListN.{length}
use Rattle.masks.proofs.Sets.{single-pow}
use Rattle.rules.specs.declared.Part.{Part}
use Rattle.rules.specs.declared.Walked.{Walked}
use Rattle.rules.specs.Walk.{fixed, visited, kept_at, walk, undecided}
use Rattle.walk_laws.proofs.Branches.{walk-leaf, walk-branches}
use Rattle.walk_laws.proofs.Undecided.{undecided-all, undecided-lowest}
use Rattle.walk.specs.Next.{Next}

module _ (n v : ℕ) (fits : n ≤ 64) (p : Part) (next : Next p.decided v) where
  pub none_left : n ≤ v → undecided n p.decided ≡ []
  none_left h = undecided-all n p.decided (λ u l. next.lower u (omega arith))

  pub next-left : v < n → (value : Bool) → undecided n p.decided ≡ v ∷ undecided n (fixed p v value).decided
  unfolding fixed
  next-left h value =
      undecided-lowest n p.decided v h (next.is_left (omega arith)) next.lower
      ∙ ap (λ (m : ℕ). v ∷ undecided n (bit_or p.decided m)) (sym (single-pow v (omega arith)))

  -- the number of undecided variables falls
  pub fewer-left : v < n → (value : Bool) → length (undecided n (fixed p v value).decided) < length (undecided n p.decided)
  fewer-left h value = omega (arith, ap length (next-left h value))

  module _ (bound : Part → ℕ) (first : ℕ → Bool) (budget : ℕ) (s : Walked) (room : s.nodes < budget) (better : bound p < s.best) where
    pub at_leaf : n ≤ v → kept_at (bound p) p.truths (visited s) ≡ walk bound first budget (undecided n p.decided) p s
    at_leaf h =
        sym (ap (λ (vs : List ℕ). walk bound first budget vs p s) (none_left h) ∙ walk-leaf bound first budget p s room better)

    -- both branches, as two calls in turn leave it
    pub both-branches : v < n → (p₁ p₂ : Part) (here one two : Walked) → p₁ ≡ fixed p v (first v) → p₂ ≡ fixed p v (not (first v)) → here ≡ visited s
        → one ≡ walk bound first budget (undecided n p₁.decided) p₁ here
        → two ≡ walk bound first budget (undecided n p₂.decided) p₂ one
        → two ≡ walk bound first budget (undecided n p.decided) p s
    unfolding fixed
    both-branches h p₁ p₂ here one two e₁ e₂ e f₁ f₂ =
        let below : Part → Walked → Walked = λ q x. walk bound first budget (undecided n q.decided) q x in
        f₂
        ∙ ap₂ below e₂ (f₁ ∙ ap₂ below e₁ e)
        ∙ sym (ap (λ (vs : List ℕ). walk bound first budget vs p s) (next-left h (first v))
        ∙ walk-branches bound first budget v (undecided n (fixed p v (first v)).decided) p s room better)
