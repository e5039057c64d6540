-- The order of readings, and of leaves in a list.
use Rattle.std.specs.Prelude.{ℕ, ◌<◌, ◌≡◌, Bool, not}
use mathlib.Core.List.{List, ◌∷◌, Memᴰ}
use Rattle.masks.specs.Masks.{has}
use Rattle.rules.specs.declared.Part.{Part}

-- One reading is before another: at the lowest variable where they differ it has the value that is tried first.
pub record Before (first : ℕ → Bool) (a b : ℕ) : Type 0 where
  pub place : ℕ
  pub agree : (v : ℕ) → v < place → has a v ≡ has b v
  pub mine : has a place ≡ first place
  pub other : has b place ≡ not (first place)

-- q stands somewhere in front of r in a list: q at its head and r behind, or both behind the head
pub data Earlier : List Part → Part → Part → Type 0 where
  headed : {x q r : Part} {qs : List Part} → q ≡ x → Memᴰ r qs → Earlier (x ∷ qs) q r
  behind : {x q r : Part} {qs : List Part} → Earlier qs q r → Earlier (x ∷ qs) q r
