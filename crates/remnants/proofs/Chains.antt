-- One more row of a chain, where the code's i + 1 meets the definition's next row.
use Prim.Native.Nat.{ℕ, ◌+◌}
use mathlib.Core.Path.{◌≡◌, refl}
use mathlib.Core.List.{[], ◌∷◌, ◌++◌}
use mathlib.Core.Bool.{◌&&◌}
use native.Mathlib.Numerals.{add-one}
use Rattle.literals.specs.declared.Lits.{Lits}
use Rattle.literals.specs.Lits.{negated_lits, together, less, is_one}
use Rattle.rules.specs.Rewrite.{lit, links, shows, compensating}

module _ (f : ℕ → Lits) where
  pub lit-first : lit f 0 ≡ f 0
  unfolding lit
  lit-first = refl

  pub lit-more : (i : ℕ) → lit f (i + 1) ≡ less (f (i + 1)) (negated_lits (lit f i))
  unfolding lit
  lit-more i = rw (add-one i)

  pub links-first : links f 0 ≡ is_one (f 0)
  unfolding links
  links-first = refl

  pub links-more : (i : ℕ) → links f (i + 1) ≡ (links f i && shows (f (i + 1)) (negated_lits (lit f i)) (lit f (i + 1)))
  unfolding links
  links-more i = rw (add-one i)

  pub compensating-more : (i : ℕ) → compensating f (i + 1) ≡ compensating f i ++ (together (lit f i) (negated_lits (lit f (i + 1))) ∷ [])
  unfolding compensating
  compensating-more i = rw (add-one i)

  pub compensating-none : compensating f 0 ≡ []
  unfolding compensating
  compensating-none = refl
