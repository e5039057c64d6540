-- Document 01, "The clause table": rows, an admissible table, the weight of a reading.
use Rattle.std.specs.Prelude.{Result, Ok, Err}
use Rattle.std.specs.Prelude.{ℕ, zero, suc, ◌+◌, ◌*◌, ◌/◌, ◌%◌, List, [], ◌∷◌, Bool, cond, not, ◌&&◌, ◌||◌, length, get_or, eqb, ltb}
use Rattle.std.specs.Int.Bits.{bit_and}
use Rattle.masks.specs.Masks.{none, without, below}
use Rattle.masks.specs.Sums.{sum, every}
use Rattle.literals.specs.declared.Lits.{Lits}
use Rattle.literals.specs.Literal.{most_variables}
use Rattle.rules.specs.declared.Row.{Row}
use Rattle.rules.specs.declared.Refusal.TheVariants.{TooManyVariables, BadTable, BadLiterals, BadWeight, SumTooLarge, BadReading}
use Rattle.rules.specs.Refusals.{Judged, in_order, ◌when◌, as_in, first_due}
use Rattle.rules.specs.declared.Weight.{Weight}
use Rattle.rules.specs.declared.Refusal.{Refusal}

abbrev pub row_words : ℕ
row_words = 4

-- rows that may be loaded
abbrev pub most_rows : ℕ
most_rows = 2_048

-- the limit of a weight, and of the weights' sum
abbrev pub most_weight : ℕ
most_weight = 1_000_000_000

-- the mark of a row: "1 for hard and 0 for soft"
abbrev pub hard_mark : ℕ
hard_mark = 1

-- a row of these literals, this weight and this mark
abbrev pub marked_row : Lits → ℕ → ℕ → Row
marked_row l w m = record { lits = l; weight = w; mark = m }

-- a soft row
abbrev pub new_row : Lits → ℕ → Row
new_row l w = marked_row l w 0

-- a hard row: "a hard row's weight word is 0"
abbrev pub hard_row : Lits → Row
hard_row l = marked_row l 0 hard_mark

unfoldable pub is_hard : Row → Bool
is_hard row = eqb row.mark hard_mark

-- "Rows of [four] 64-bit words: mask of positive literals, mask of negative ones, weight", "a fourth word, 1 for hard and 0 for soft": the row whose
-- words begin at a place
unfoldable pub row_in : List ℕ → ℕ → Row
row_in words at =
    marked_row (record { positive = get_or words at 0; negative = get_or words (at + 1) 0 }) (get_or words (at + 2) 0) (get_or words (at + 3) 0)

-- the words of a row
unfoldable pub row_words_of : Row → List ℕ
row_words_of row = row.lits.positive ∷ row.lits.negative ∷ row.weight ∷ row.mark ∷ []

-- a row with another weight
abbrev pub with_weight : Row → ℕ → Row
with_weight row w = marked_row row.lits w row.mark

-- row i of a table; rows are numbered from 0
unfoldable pub row_of : List ℕ → ℕ → Row
row_of table i = row_in table (row_words * i)

unfoldable pub row_count : List ℕ → ℕ
row_count table = length table / row_words

-- A full reading is the mask of the true variables. It satisfies literals of which one is true; no literals are never satisfied.
unfoldable pub holds : Lits → ℕ → Bool
holds l reading = not (none (bit_and l.positive reading)) || not (none (without l.negative reading))

-- what a row adds to a reading's weight
unfoldable pub given_up : Row → ℕ → ℕ
given_up row reading = cond (holds row.lits reading) 0 row.weight

-- "It weighs the sum of the weights of the rows it doesn't satisfy"
unfoldable pub weighs : List ℕ → ℕ → ℕ
weighs table reading = sum (row_count table) (λ i. given_up (row_of table i) reading)

-- a hard row that a reading breaks
unfoldable pub breaks : Row → ℕ → Bool
breaks row reading = is_hard row && not (holds row.lits reading)

-- "whether every hard row holds"
unfoldable pub hard_hold : List ℕ → ℕ → Bool
hard_hold table reading = every (row_count table) (λ i. not (breaks (row_of table i) reading))

-- 2: table words not a multiple of 4, or over 2,048 rows
unfoldable pub bad_table : List ℕ → Bool
bad_table table = not (eqb (length table % row_words) 0) || ltb most_rows (row_count table)

-- 5: a row has a variable both ways or above the count
unfoldable pub bad_lits : ℕ → Lits → Bool
bad_lits variables l = not (none (bit_and l.positive l.negative)) || not (below l.positive variables && below l.negative variables)

-- "any other fourth word and a hard row with a weight"
unfoldable pub bad_mark : Row → Bool
bad_mark row = ltb hard_mark row.mark || (is_hard row && not (eqb row.weight 0))

-- 6: weight 0 or over 1,000,000,000; "also any other fourth word and a hard row with a weight"
unfoldable pub bad_weight : Row → Bool
bad_weight row = bad_mark row || (not (is_hard row) && (eqb row.weight 0 || ltb most_weight row.weight))

unfoldable pub row_why : ℕ → ℕ → Row → Judged
row_why variables i row = first_due (BadLiterals i when bad_lits variables row.lits ∷ BadWeight i when bad_weight row ∷ [])

-- "rows in order with 5 before 6": the first refusal among the first k rows
unfoldable pub rows_why : ℕ → List ℕ → ℕ → Judged
rows_why variables table zero = Ok tt
rows_why variables table (suc k) = in_order (rows_why variables table k) (row_why variables k (row_of table k))

-- 7: weights sum over 1,000,000,000
unfoldable pub sum_too_large : List ℕ → Bool
sum_too_large table = ltb most_weight (sum (row_count table) (λ i. (row_of table i).weight))

-- An admissible table for a count of variables is refused by none of 1, 2, rows, 7.
unfoldable pub table_why : ℕ → List ℕ → Judged
table_why variables table =
    first_due (TooManyVariables when ltb most_variables variables ∷ BadTable when bad_table table ∷ as_in (rows_why variables table (row_count table))
    ∷ SumTooLarge when sum_too_large table ∷ [])

-- Weight of a reading: 1, 2, rows, 7, 8.
unfoldable pub weigh_why : ℕ → List ℕ → ℕ → Judged
weigh_why variables table reading = first_due (as_in (table_why variables table) ∷ BadReading when not (below reading variables) ∷ [])

abbrev pub weighed_as : Judged → ℕ → Bool → Result Weight Refusal
weighed_as (Ok _) w hold = Ok (record { weight = w; hold = hold })
weighed_as (Err r) w hold = Err r

-- "The weight of a reading also says whether every hard row holds."
unfoldable pub weighed : ℕ → List ℕ → ℕ → Result Weight Refusal
weighed variables table reading = weighed_as (weigh_why variables table reading) (weighs table reading) (hard_hold table reading)
