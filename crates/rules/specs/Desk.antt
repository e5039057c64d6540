-- Document 01, "The desk": how it lies in lent words, what is well formed, load, and what a row is under the decisions.
use Rattle.std.specs.Prelude.{ℕ, ◌+◌, ◌-◌, ◌*◌, List, [], ◌∷◌, ◌++◌, Bool, not, ◌&&◌, ◌||◌, length, get_or, drop, replicate, eqb, leb, ltb}
use Rattle.std.proofs.lemmas.List.Edits.{sets}
use Rattle.std.specs.Int.Bits.{bit_and}
use Rattle.masks.specs.Masks.{none, without, below}
use Rattle.masks.specs.Sums.{sum, every}
use Rattle.literals.specs.declared.Lits.{Lits}
use Rattle.literals.specs.Literal.{most_variables}
use Rattle.rules.specs.declared.Row.{Row}
use Rattle.rules.specs.declared.Part.{Part}
use Rattle.rules.specs.declared.Refusal.TheVariants.{TooManyVariables, BadTable, BadCapacity, NoRoom, SumTooLarge}
use Rattle.rules.specs.Refusals.{Judged, ◌when◌, as_in, first_due, unless_refused}
use Rattle.rules.specs.Table.{row_words, most_rows, most_weight, row_in, row_words_of, with_weight, row_count, given_up, is_hard, breaks}
use Rattle.rules.specs.Table.{bad_table, bad_lits, bad_mark, rows_why, sum_too_large}

abbrev pub head_words : ℕ
head_words = 8

abbrev pub most_capacity : ℕ
most_capacity = 4_096

abbrev pub most_steps : ℕ
most_steps = 256

abbrev pub entry_words : ℕ
entry_words = 16

-- Words 0 to 7. A word past the end of the lent words reads as 0.
abbrev pub variables : List ℕ → ℕ
variables d = get_or d 0 0

abbrev pub in_use : List ℕ → ℕ
in_use d = get_or d 1 0

abbrev pub capacity : List ℕ → ℕ
capacity d = get_or d 2 0

abbrev pub standing : List ℕ → ℕ
standing d = get_or d 3 0

abbrev pub conceded : List ℕ → ℕ
conceded d = get_or d 4 0

abbrev pub decided : List ℕ → ℕ
decided d = get_or d 5 0

abbrev pub truths : List ℕ → ℕ
truths d = get_or d 6 0

abbrev pub loaded : List ℕ → ℕ
loaded d = get_or d 7 0

-- "next [4C]: rows, as in the table"; "last 4,096: 256 step entries of 16 words"
unfoldable pub row_place : ℕ → ℕ
row_place i = head_words + row_words * i

unfoldable pub entry_place : List ℕ → ℕ → ℕ
entry_place d j = row_place (capacity d) + entry_words * j

-- "The desk becomes 8 + 4C + 4,096 words."
unfoldable pub desk_words : ℕ → ℕ
desk_words c = row_place c + most_steps * entry_words

unfoldable pub row_on : List ℕ → ℕ → Row
row_on d i = row_in d (row_place i)

-- Row i of the desk becomes this row, or gets this weight.
unfoldable pub set_row : List ℕ → ℕ → Row → List ℕ
set_row d i row = sets d (row_place i) (row_words_of row)

unfoldable pub set_weight : List ℕ → ℕ → ℕ → List ℕ
set_weight d i w = set_row d i (with_weight (row_on d i) w)

-- conceded plus all weights in use
unfoldable pub weight_on : List ℕ → ℕ
weight_on d = conceded d + sum (in_use d) (λ i. (row_on d i).weight)

-- (a) the lent words reach the end of the desk, with C at most 4,096
unfoldable pub reaches : List ℕ → Bool
reaches d = leb (capacity d) most_capacity && leb (desk_words (capacity d)) (length d)

-- (b) variables at most 64, rows loaded at most 2,048 and at most rows in use, those at most C, steps at most 256
unfoldable pub in_limits : List ℕ → Bool
in_limits d =
    leb (variables d) most_variables
    && (leb (loaded d) most_rows && (leb (loaded d) (in_use d) && (leb (in_use d) (capacity d) && leb (standing d) most_steps)))

-- (c) no row in use has a variable both ways or above the count; "and 10 takes both": another fourth word, and a hard row with a weight
unfoldable pub rows_sound : List ℕ → Bool
rows_sound d = every (in_use d) (λ i. not (bad_lits (variables d) (row_on d i).lits || bad_mark (row_on d i)))

-- (d) conceded plus all weights in use is at most 1,000,000,000
unfoldable pub weight_fits : List ℕ → Bool
weight_fits d = leb (weight_on d) most_weight

-- (e) the true mask lies in the decided mask, and that within the variables
unfoldable pub masks_nest : List ℕ → Bool
masks_nest d = none (without (truths d) (decided d)) && below (decided d) (variables d)

unfoldable pub well_formed : List ℕ → Bool
well_formed d = reaches d && (in_limits d && (rows_sound d && (weight_fits d && masks_nest d)))

-- Load: 1, 2, 3, 4, rows in order with 5 before 6, then 7.
unfoldable pub load_why : ℕ → List ℕ → ℕ → List ℕ → Judged
load_why n table c d =
    first_due (TooManyVariables when ltb most_variables n ∷ BadTable when bad_table table ∷ BadCapacity when (ltb c (row_count table) || ltb most_capacity c)
    ∷ NoRoom when ltb (length d) (desk_words c) ∷ as_in (rows_why n table (row_count table)) ∷ SumTooLarge when sum_too_large table ∷ [])

-- "Load writes the whole desk; words not in use hold 0", and "words past it are never touched"
unfoldable pub load_step : ℕ → List ℕ → ℕ → List ℕ → List ℕ
load_step n table c d =
    (n ∷ row_count table ∷ c ∷ 0 ∷ 0 ∷ 0 ∷ 0 ∷ row_count table ∷ [])
    ++ (table ++ (replicate (row_words * c - length table + most_steps * entry_words) 0 ++ drop (desk_words c) d))

-- the words after a load, refused or not
unfoldable pub load_desk : ℕ → List ℕ → ℕ → List ℕ → List ℕ
load_desk n table c d = unless_refused (load_why n table c d) (load_step n table c d) d

-- The decisions as a partial reading: which variables have a value, and which of those are true.
unfoldable pub decisions : List ℕ → Part
decisions d = record { decided = decided d; truths = truths d }

-- "A row is satisfied once a literal is decided true"
unfoldable pub satisfied : Part → Lits → Bool
satisfied p l =
    not (none (bit_and l.positive p.truths))
    || not (none (bit_and l.negative (without p.decided p.truths)))

-- "A row's remnant is its literals on undecided variables"
unfoldable pub remnant : Part → Lits → Lits
remnant p l = record { positive = without l.positive p.decided; negative = without l.negative p.decided }

-- "and spent at weight 0"; a hard row "is never spent"
unfoldable pub spent : Row → Bool
spent row = eqb row.weight 0 && not (is_hard row)

-- A full reading weighs "on a desk, conceded plus that sum over the rows in use".
unfoldable pub desk_weighs : List ℕ → ℕ → ℕ
desk_weighs d reading = conceded d + sum (in_use d) (λ i. given_up (row_on d i) reading)

-- every hard row in use holds
unfoldable pub hard_hold_on : List ℕ → ℕ → Bool
hard_hold_on d reading = every (in_use d) (λ i. not (breaks (row_on d i) reading))

-- a full reading that keeps the decisions: within the variables, and true just where they say so
unfoldable pub keeps : List ℕ → ℕ → Bool
keeps d reading = below reading (variables d) && eqb (bit_and reading (decided d)) (truths d)
