-- Document 01, "Examples, marked P where proved": one table. A row has the example's name, what the definitions give, and what document 01
-- says, both as numbers. Further examples, with names that do not start with P, are in Further.antt.
use Rattle.std.specs.Prelude.{ℕ, zero, suc, ◌+◌, ◌-◌, List, [], ◌∷◌, ◌++◌, Bool, true, false, ◌&&◌, replicate, eqb, pos, negsuc, Result, Ok, Err}
use Prim.Native.String.{String}
use Rattle.literals.specs.declared.Lits.{Lits}
use Rattle.literals.specs.Lits.{no_lits, together}
use Rattle.literals.specs.Literal.{lits_of}
use Rattle.rules.specs.declared.Choice.{Choice}
use Rattle.rules.specs.Refusals.{Judged, number_of, place_of}
use Rattle.rules.specs.Table.{new_row, weighs, row_words_of}
use Rattle.rules.specs.Desk.{in_use, conceded, row_on, desk_words, load_why, load_step, desk_weighs}
use Rattle.rules.specs.Choice.{bounded}
use Rattle.rules.specs.Text.{bytes}
use Rattle.rules.specs.Program.{answer}
use Rattle.rules.specs.Calls.{decide, rewrite, take_back, call_why, after_call, after_calls}
use Rattle.rules.specs.declared.Losses.{Losses}
use Rattle.rules.specs.declared.Refusal.{Refusal}

pub record Example : Type 0 where
  pub name : String
  pub gives : List ℕ
  pub says : List ℕ

abbrev pub same_numbers : List ℕ → List ℕ → Bool
same_numbers [] [] = true
same_numbers [] (y ∷ ys) = false
same_numbers (x ∷ xs) [] = false
same_numbers (x ∷ xs) (y ∷ ys) = eqb x y && same_numbers xs ys

-- each row of a table gives what it says
abbrev pub all_right : List Example → Bool
all_right [] = true
all_right (e ∷ es) = same_numbers e.gives e.says && all_right es

-- Rows as document 01 writes them: (x 1, not-x 2) with a weight.
abbrev pub x : ℕ → Lits
x v = lits_of (pos v)

abbrev pub not-x : ℕ → Lits
not-x v = lits_of (negsuc (v - 1))

abbrev pub all : List Lits → Lits
all [] = no_lits
all (l ∷ ls) = together l (all ls)

abbrev pub row : List Lits → ℕ → List ℕ
row ls w = row_words_of (new_row (all ls) w)

-- a desk of words that hold 9, so that what load leaves or zeroes is seen
abbrev pub lent : ℕ → List ℕ
lent c = replicate (desk_words c + 2) 9

abbrev pub desk : ℕ → List ℕ → ℕ → List ℕ
desk n table c = load_step n table c (lent c)

-- an answer that is a number and a place, or nothing
abbrev pub refusal : Judged → List ℕ
refusal (Ok _) = []
refusal (Err r) = number_of r ∷ place_of r ∷ []

abbrev bound_numbers : Result Losses Refusal → List ℕ
bound_numbers (Ok l) = l.conceded ∷ l.lost ∷ l.foreseen ∷ []
bound_numbers (Err r) = number_of r ∷ place_of r ∷ []

-- conceded and the rows in use
abbrev rows_on : List ℕ → ℕ → List ℕ
rows_on d zero = []
rows_on d (suc n) = rows_on d n ++ row_words_of (row_on d n)

abbrev pub account : List ℕ → List ℕ
account d = conceded d ∷ rows_on d (in_use d)

abbrev p4 : String
p4 = "rows=5\nweight=1\nhard=0\nlits=1\nweight=1\nhard=0\nlits=-1 2\nweight=1\nhard=0\nlits=-1 -2\nweight=1\nhard=0\nlits=-1 3\nweight=1\nhard=0\nlits=-1 -3\n"

abbrev pub p5 : List ℕ
p5 = row (x 1 ∷ []) 3 ++ (row (x 2 ∷ []) 5 ++ row (not-x 1 ∷ not-x 2 ∷ []) 2)

abbrev pub p8 : List ℕ
p8 = row (x 1 ∷ x 2 ∷ []) 1 ++ row (not-x 2 ∷ []) 1

abbrev p6 : List ℕ
p6 = row (x 1 ∷ []) 1 ++ (row (not-x 1 ∷ x 2 ∷ []) 1 ++ (row (not-x 1 ∷ x 3 ∷ []) 1 ++ row (not-x 2 ∷ not-x 3 ∷ []) 1))

abbrev pub p7 : List ℕ
p7 = row (x 1 ∷ x 2 ∷ []) 4 ++ row (not-x 1 ∷ x 2 ∷ []) 1

-- P8 after x1 is decided false, and after the merge
abbrev p8-decided : List ℕ
p8-decided = after_call (desk 2 p8 2) (decide (negsuc 0))

abbrev p8-merged : List ℕ
p8-merged = after_call p8-decided (rewrite 1 (0 ∷ 1 ∷ []))

abbrev p10 : ℕ → ℕ → Judged
p10 v w = load_why 1 (row (x 1 ∷ []) v ++ row (not-x 1 ∷ []) w) 2 (lent 2)

abbrev pub example : String → List ℕ → List ℕ → Example
example name gives says = record { name = name; gives = gives; says = says }

abbrev pub examples : List Example
examples =
    example "P1: no variables, no rows"
    (answer (bytes "vars=0\nbudget=100\nrows=0\n"))
    (bytes "status=done\nweight=0\nnodes=1\nreading=\nconceded=0\nlost=0\nforeseen=0\n")
    ∷ example "P1: budget 0 stops with none"
    (answer (bytes "vars=0\nbudget=0\nrows=0\n"))
    (bytes "status=stopped\nweight=none\nnodes=0\nreading=none\nconceded=0\nlost=0\nforeseen=0\n")
    ∷ example "P2: the whole example"
    (answer (bytes "vars=1\nbudget=100\nrows=2\nweight=3\nhard=0\nlits=1\nweight=2\nhard=0\nlits=-1\n"))
    (bytes "status=done\nweight=2\nnodes=3\nreading=1\nconceded=0\nlost=0\nforeseen=2\n")
    ∷ example "P2: bound"
    (bound_numbers (bounded (desk 1 (row (x 1 ∷ []) 3 ++ row (not-x 1 ∷ []) 2) 2) Choice.Units))
    (0 ∷ 0 ∷ 2 ∷ [])
    ∷ example "P3"
    (answer (bytes "vars=1\nbudget=100\nrows=2\nweight=4\nhard=0\nlits=1\nweight=4\nhard=0\nlits=-1\n"))
    (bytes "status=done\nweight=4\nnodes=3\nreading=1\nconceded=0\nlost=0\nforeseen=4\n")
    ∷ example "P4"
    (answer (bytes "vars=3\nbudget=100\n" ++ bytes p4))
    (bytes "status=done\nweight=1\nnodes=11\nreading=-1 2 3\nconceded=0\nlost=0\nforeseen=0\n")
    ∷ example "P4: budget 6"
    (answer (bytes "vars=3\nbudget=6\n" ++ bytes p4))
    (bytes "status=stopped\nweight=2\nnodes=6\nreading=1 2 3\nconceded=0\nlost=0\nforeseen=0\n")
    ∷ example "P4: budget 10"
    (answer (bytes "vars=3\nbudget=10\n" ++ bytes p4))
    (bytes "status=stopped\nweight=1\nnodes=10\nreading=-1 2 3\nconceded=0\nlost=0\nforeseen=0\n")
    ∷ example "P4: budget 11"
    (answer (bytes "vars=3\nbudget=11\n" ++ bytes p4))
    (bytes "status=done\nweight=1\nnodes=11\nreading=-1 2 3\nconceded=0\nlost=0\nforeseen=0\n")
    ∷ example "P5: chain on rows 0, 2, 1; C = 4 fits"
    (refusal (call_why (desk 2 p5 4) (rewrite 3 (0 ∷ 2 ∷ 1 ∷ []))))
    []
    ∷ example "P5: weights 1, 3, 0, conceded 2, new (1,2) weight 2"
    (account (after_call (desk 2 p5 4) (rewrite 3 (0 ∷ 2 ∷ 1 ∷ []))))
    (2 ∷ (row (x 1 ∷ []) 1 ++ (row (x 2 ∷ []) 3 ++ (row (not-x 1 ∷ not-x 2 ∷ []) 0 ++ row (x 1 ∷ x 2 ∷ []) 2))))
    ∷ example "P5: C = 3 gives 15"
    (refusal (call_why (desk 2 p5 3) (rewrite 3 (0 ∷ 2 ∷ 1 ∷ []))))
    (15 ∷ 0 ∷ [])
    ∷ example "P5: the all-false reading, in the table and after the chain"
    (weighs p5 0 ∷ desk_weighs (after_call (desk 2 p5 4) (rewrite 3 (0 ∷ 2 ∷ 1 ∷ []))) 0 ∷ [])
    (8 ∷ 8 ∷ [])
    ∷ example "P5: the bound after the chain: 2 conceded; with x1 false, 1 more lost"
    (bound_numbers (bounded (after_call (desk 2 p5 4) (rewrite 3 (0 ∷ 2 ∷ 1 ∷ []))) Choice.Units)
    ++ bound_numbers (bounded (after_calls (desk 2 p5 4) (rewrite 3 (0 ∷ 2 ∷ 1 ∷ []) ∷ decide (negsuc 0) ∷ [])) Choice.Units))
    (2 ∷ 0 ∷ 0 ∷ 2 ∷ 1 ∷ 0 ∷ [])
    ∷ example "P6: fork concedes 1, adds (1,-2,-3) and (-1,2,3)"
    (account (after_call (desk 3 p6 6) (rewrite 4 (0 ∷ 1 ∷ 2 ∷ 3 ∷ []))))
    (1 ∷ (row (x 1 ∷ []) 0 ++ (row (not-x 1 ∷ x 2 ∷ []) 0 ++ (row (not-x 1 ∷ x 3 ∷ []) 0 ++ (row (not-x 2 ∷ not-x 3 ∷ []) 0
    ++ (row (x 1 ∷ not-x 2 ∷ not-x 3 ∷ []) 1 ++ row (not-x 1 ∷ x 2 ∷ x 3 ∷ []) 1))))))
    ∷ example "P7: merge leaves 3 and 0, adds x2 weight 1"
    (account (after_call (desk 2 p7 3) (rewrite 1 (0 ∷ 1 ∷ []))))
    (0 ∷ (row (x 1 ∷ x 2 ∷ []) 3 ++ (row (not-x 1 ∷ x 2 ∷ []) 0 ++ row (x 2 ∷ []) 1)))
    ∷ example "P8: decide x1 false, merge rows 0 and 1: conceded 1"
    (account p8-merged)
    (1 ∷ (row (x 1 ∷ x 2 ∷ []) 0 ++ row (not-x 2 ∷ []) 0))
    ∷ example "P8: two takings back restore the load"
    (after_calls p8-merged (take_back ∷ take_back ∷ []))
    (desk 2 p8 2)
    ∷ example "P8: a third gives 16"
    (refusal (call_why (after_calls p8-merged (take_back ∷ take_back ∷ [])) take_back))
    (16 ∷ 0 ∷ [])
    ∷ example "P9"
    (answer (bytes "vars=1\nbudget=100\nrows=1\nweight=7\nhard=0\nlits=\n"))
    (bytes "status=done\nweight=7\nnodes=3\nreading=1\nconceded=0\nlost=7\nforeseen=0\n")
    ∷ example "P10: 999,999,999 and 1 load"
    (refusal (p10 999_999_999 1))
    []
    ∷ example "P10: 1,000,000,000 and 1 give 7"
    (refusal (p10 1_000_000_000 1))
    (7 ∷ 0 ∷ [])
    ∷ []
