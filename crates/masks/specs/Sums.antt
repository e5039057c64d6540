-- Sums, tests and the smallest over the indices below a count.
use Rattle.std.specs.Prelude.{ℕ, zero, suc, ◌+◌, min, Bool, true, ◌&&◌}

-- f 0 + .. + f (n - 1)
unfoldable pub sum : ℕ → (ℕ → ℕ) → ℕ
sum zero f = 0
sum (suc n) f = sum n f + f n

-- p holds at each index below n
unfoldable pub every : ℕ → (ℕ → Bool) → Bool
every zero p = true
every (suc n) p = every n p && p n

-- the smallest of f 0 .. f n
unfoldable pub smallest : ℕ → (ℕ → ℕ) → ℕ
smallest zero f = f 0
smallest (suc n) f = min (smallest n f) (f (suc n))
