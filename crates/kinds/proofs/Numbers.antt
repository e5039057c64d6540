-- Which kind has which number.
use Prim.Native.Nat.{◌≤◌}
use mathlib.Core.Path.{◌≡◌, refl}
use mathlib.Core.Bool.{false}
use native.Mathlib.Omega.{arith}
use lib.Dec.{eqb}
use Rattle.kinds.specs.declared.Kind.{Kind}
use Rattle.kinds.specs.declared.Kind.TheVariants.{Decision, Merge, Shift, Chain, Fork}
use Rattle.kinds.specs.Numbers.{number}

pub number-known : (k : Kind) → number k ≤ 4
number-known Decision = omega arith
number-known Merge = omega arith
number-known Shift = omega arith
number-known Chain = omega arith
number-known Fork = omega arith

-- all but a decision are rewritings
pub rewriting-some : (k : Kind) → (k ≡ Decision → ⊥) → 1 ≤ number k
rewriting-some Decision n = absurd (n refl)
rewriting-some Merge n = omega arith
rewriting-some Shift n = omega arith
rewriting-some Chain n = omega arith
rewriting-some Fork n = omega arith

-- 1 is a merge's alone
pub not-merge : (k : Kind) → (k ≡ Merge → ⊥) → eqb (number k) 1 ≡ false
not-merge Decision n = refl
not-merge Merge n = absurd (n refl)
not-merge Shift n = refl
not-merge Chain n = refl
not-merge Fork n = refl
