-- A set of literals is two masks: the variables whose positive literal is in it, and those whose negative one is.
use Rattle.std.specs.Prelude.{ℕ, ◌+◌, Bool, ◌&&◌, eqb}
use Rattle.std.specs.Int.Bits.{bit_or}
use Rattle.masks.specs.Masks.{without, count}
use Rattle.literals.specs.declared.Lits.{Lits}

unfoldable pub no_lits : Lits
no_lits = record { positive = 0; negative = 0 }

-- each literal's opposite
unfoldable pub negated_lits : Lits → Lits
negated_lits l = record { positive = l.negative; negative = l.positive }

-- what is in a or in b
unfoldable pub together : Lits → Lits → Lits
together a b = record { positive = bit_or a.positive b.positive; negative = bit_or a.negative b.negative }

-- what is in a and not in b
unfoldable pub less : Lits → Lits → Lits
less a b = record { positive = without a.positive b.positive; negative = without a.negative b.negative }

-- the mask of the variables that a literal of the set stands on
unfoldable pub variables_of : Lits → ℕ
variables_of l = bit_or l.positive l.negative

unfoldable pub is_empty : Lits → Bool
is_empty l = eqb l.positive 0 && eqb l.negative 0

unfoldable pub same_lits : Lits → Lits → Bool
same_lits a b = eqb a.positive b.positive && eqb a.negative b.negative

-- just one literal
unfoldable pub is_one : Lits → Bool
is_one l = eqb (count l.positive + count l.negative) 1
