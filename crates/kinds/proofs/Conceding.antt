-- How often a kind concedes.
use Prim.Native.Nat.{ℕ, zero, suc, ◌≤◌, ◌<◌}
use mathlib.Core.Path.{◌≡◌}
use mathlib.Core.List.{[], ◌∷◌}
use native.Mathlib.Omega.{arith}
use lib.ListN.{get_or-eq_default}
use Rattle.rules.specs.Steps.{concedes}

-- w is conceded at most once, whatever the kind
pub concedes-once : (kind : ℕ) → concedes kind ≤ 1
unfolding concedes
concedes-once zero = omega arith
concedes-once (suc zero) = omega arith
concedes-once (suc (suc zero)) = omega arith
concedes-once (suc (suc (suc zero))) = omega arith
concedes-once (suc (suc (suc (suc zero)))) = omega arith
concedes-once (suc (suc (suc (suc (suc k))))) = omega arith

-- above 4 there is no kind
pub concedes-none : (kind : ℕ) → 4 < kind → concedes kind ≡ 0
unfolding concedes
concedes-none kind h = get_or-eq_default (0 ∷ 0 ∷ 0 ∷ 1 ∷ 1 ∷ []) 0 {n = kind} (omega arith)
