-- The lowest variable that a mask of decided ones leaves, or 64 where it leaves none.
use Rattle.std.specs.Prelude.{ℕ, ◌≤◌, ◌<◌, ◌≡◌, true, false}
use Rattle.masks.specs.Masks.{has}

pub record Next (decided v : ℕ) : Type 0 where
  pub most : v ≤ 64
  pub lower : (u : ℕ) → u < v → has decided u ≡ true
  pub is_left : v < 64 → has decided v ≡ false
