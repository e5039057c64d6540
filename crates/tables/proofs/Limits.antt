-- A sum that is held to a limit as it grows: what is left, with the start and what has been passed, is the limit.
use Prim.Native.Nat.{ℕ, ◌+◌, ◌-◌, ◌≤◌, ◌<◌}
use mathlib.Core.Path.{◌≡◌}
use mathlib.Core.Bool.{true, false}
use native.Mathlib.Omega.{arith}
use lib.Dec.{ltb}
use borrow.Author.Tests.{lt-ltb, le-ltb}
use Rattle.masks.specs.Sums.{sum}
use Rattle.masks.proofs.Sums.{sum-empty, sum_more, sum_mono}

module _ (limit start : ℕ) (f : ℕ → ℕ) where
  pub over-at-once : (n : ℕ) → limit < start → ltb limit (start + sum n f) ≡ true
  over-at-once n h = lt-ltb limit (start + sum n f) (omega arith)

  pub left-at-first : start ≤ limit → limit - start + (start + sum 0 f) ≡ limit
  left-at-first h = omega (arith, sum-empty f)

  -- the next term is more than what is left
  pub over-here : (i n left : ℕ) → i < n → left + (start + sum i f) ≡ limit → left < f i → ltb limit (start + sum n f) ≡ true
  over-here i n left h e more =
      lt-ltb limit (start + sum n f) (omega (arith, sum_more i f, sum_mono (i + 1) n f (omega arith)))

  pub left_after : (i left : ℕ) → left + (start + sum i f) ≡ limit → f i ≤ left → left - f i + (start + sum (i + 1) f) ≡ limit
  left_after i left e fits = omega (arith, sum_more i f)

  pub never-over : (n left : ℕ) → left + (start + sum n f) ≡ limit → ltb limit (start + sum n f) ≡ false
  never-over n left e = le-ltb limit (start + sum n f) (omega arith)
