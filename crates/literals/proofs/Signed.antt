-- A signed value is held as 64 bits. Read as signed, they are the number again (`back`), so that what the code makes of values is what the
-- definitions make of numbers.
use mathlib.Core.Path.{◌≡◌, ap, ◌∙◌}
use lib.IntN.{ℤ, pos, ◌-ℤ◌, +ℤ_idl, neg_ℤ}
use mir.Syntax.{w64}
use mir.Val.{SFits, of_z, to_z}
use mir.ValLaws.{to_z-of_z}

-- what is read of a value that was written
abbrev pub again : ℤ → ℤ
again z = to_z w64 (of_z w64 z)

pub back : (z : ℤ) → SFits w64 z → again z ≡ z
back z f = to_z-of_z w64 z f

pub turned : (z : ℤ) → SFits w64 z → pos 0 -ℤ again z ≡ neg_ℤ z
turned z f = ap (λ (x : ℤ). pos 0 -ℤ x) (back z f) ∙ +ℤ_idl (neg_ℤ z)
