-- The lowest variable left is the lowest place of the complement: a complement has just what the mask lacks, below 64.
use Prim.Native.Nat.{ℕ, ◌-◌, ◌^◌, ◌≤◌, ◌<◌}
use mathlib.Core.Path.{sym, ◌∙◌}
use native.Mathlib.Omega.{arith}
use borrow.Author.Tests.{not-true, not-false}
use lib.Count.{count_trailing_zeros, trailing_le}
use Rattle.masks.specs.Masks.{has}
use Rattle.masks.proofs.Sets.{has-complement}
use Rattle.masks.proofs.Counts.{trailing-under, trailing-has}
use Rattle.walk.specs.Next.{Next}

pub lowest-left : (a : ℕ) → a < 2 ^ 64 → Next a (count_trailing_zeros 64 (2 ^ 64 - 1 - a))
lowest-left a l =
    let m : ℕ = 2 ^ 64 - 1 - a in
    let most : count_trailing_zeros 64 m ≤ 64 = trailing_le 64 m in
    record {
      most = most;
      lower = λ u h. not-false (has a u) (sym (has-complement 64 a u l (omega arith)) ∙ trailing-under 64 m u h);
      is_left = λ h. not-true (has a (count_trailing_zeros 64 m)) (sym (has-complement 64 a (count_trailing_zeros 64 m) l h) ∙ trailing-has 64 m h);
    }
