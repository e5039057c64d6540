-- A literal of a text as the kind of value it is: the signed number of its sign and its variable.
use Rattle.std.specs.Prelude.{ℕ, Bool, cond, ℤ, pos, Option, Some, None}
use Rattle.literals.specs.Literal.{opposite}
use Rattle.literals.specs.declared.Literal.{Literal}

-- "minus before a negative one"
abbrev pub signed : Bool → ℕ → ℤ
signed positive v = cond positive (pos v) (opposite (pos v))

abbrev pub literal_read : Option (Bool × ℕ × ℕ) → Option (Literal × ℕ)
literal_read (Some (positive, v, next)) = Some (record { value = signed positive v }, next)
literal_read None = None
