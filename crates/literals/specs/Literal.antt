-- A literal is a signed number, never 0, up to `most_variables` either way. Its size is its variable, and its negation is the other sign.
-- All definitions are total: a number that is no literal has a size and a sign too, and is its own opposite.
use Rattle.std.specs.Prelude.{ℕ, ◌-◌, Bool, cond, ◌&&◌, eqb, leb, ℤ, pos, neg_ℤ, nat_abs, Option, Some, None}
use Rattle.std.specs.Int.Signed.{lt_z}
use Rattle.masks.specs.Masks.{single}
use Rattle.literals.specs.declared.Lits.{Lits}
use Rattle.literals.specs.declared.Literal.{Literal}

-- how many variables there can be; they are numbered from 1
abbrev pub most_variables : ℕ
most_variables = 64

-- the variable
unfoldable pub size : ℤ → ℕ
size z = nat_abs z

-- the sign
unfoldable pub is_positive : ℤ → Bool
is_positive z = lt_z (pos 0) z

unfoldable pub is_literal : ℤ → Bool
is_literal z = leb 1 (size z) && leb (size z) most_variables

-- the other sign
unfoldable pub opposite : ℤ → ℤ
opposite z = cond (is_literal z) (neg_ℤ z) z

-- the mask of the variable: bit v - 1 stands for variable v
unfoldable pub bit_of : ℤ → ℕ
bit_of z = cond (eqb (size z) 0) 0 (single (size z - 1))

-- the literal alone, as a set: its bit, in the mask of its sign
unfoldable pub lits_of : ℤ → Lits
lits_of z = record { positive = cond (is_positive z) (bit_of z) 0; negative = cond (is_positive z) 0 (bit_of z) }

-- what is no literal is refused
unfoldable pub offered : ℤ → Option Literal
offered z = cond (is_literal z) (Some (record { value = z })) None
