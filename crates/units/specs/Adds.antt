-- The sums of units, one for each literal, and what a row adds to them.
use Rattle.std.specs.Prelude.{ℕ, ◌+◌, ◌-◌, ◌*◌, ◌^◌, ◌<◌, List, ◌≡◌, cond, eqb, ltb, length, get_or}
use Rattle.std.specs.Int.Bits.{bit_and, bit_or, bit_xor}
use Rattle.std.specs.Int.Count.{count_trailing_zeros}
use Rattle.masks.specs.Masks.{single}
use Rattle.literals.specs.declared.Lits.{Lits}
use Rattle.literals.specs.Literal.{most_variables}
use Rattle.literals.specs.Lits.{same_lits}
use Rattle.rules.specs.declared.Row.{Row}
use Rattle.rules.specs.declared.Part.{Part}
use Rattle.rules.specs.Bound.{weight_where}

-- the literals of the variable with bit v
abbrev pub positive_unit : ℕ → Lits
positive_unit v = record { positive = single v; negative = 0 }

abbrev pub negative_unit : ℕ → Lits
negative_unit v = record { positive = 0; negative = single v }

-- ---- a sum for each literal, the positive ones first

abbrev pub sum_words : ℕ
sum_words = 2 * most_variables

-- the literal whose sum stands at a place
unfoldable pub unit_at : ℕ → Lits
unit_at k = cond (ltb k most_variables) (positive_unit k) (negative_unit (k - most_variables))

-- the place of a literal's sum
unfoldable pub place_of : Lits → ℕ
place_of l =
    let v = count_trailing_zeros 64 (bit_or l.positive l.negative) in
    cond (eqb l.negative 0) v (most_variables + v)

-- the weight that a row still has, of which these negative literals are left: its variables that are true, with those, are its negative ones
abbrev pub weight_under : Part → Row → ℕ → ℕ
weight_under p row negative =
    let l = row.lits in
    cond (eqb (bit_or (bit_and (bit_xor l.positive l.negative) p.truths) negative) l.negative) row.weight 0

-- what a weight added at one place adds at each
abbrev pub place_adds : ℕ → ℕ → ℕ → ℕ
place_adds at w k = cond (eqb k at) w 0

-- what a row adds at each place
abbrev pub row_adds : Part → Row → ℕ → ℕ
row_adds p row k = weight_where (same_lits (unit_at k)) p row

-- a weight can be added to any of the sums
pub record Roomy (w : ℕ) (sums : List ℕ) : Type 0 where
  pub words : length sums ≡ sum_words
  pub fits : (k : ℕ) → k < sum_words → get_or sums k 0 + w < 2 ^ 64

-- each of the sums has grown by what was to be added there
pub record Grown (adds : ℕ → ℕ) (before after : List ℕ) : Type 0 where
  pub words : length after ≡ length before
  pub each : (k : ℕ) → k < sum_words → get_or after k 0 ≡ get_or before k 0 + adds k
