-- Examples of the bound by groups, in the form of the other tables: both bounds, the rows of the first group, what is left of the weights; and of
-- the choice: what a search by each answers, the numbers of a caller in C.
use Rattle.std.specs.Prelude.{ℕ, zero, suc, List, [], ◌∷◌, ◌++◌, pos, negsuc, get_or, Result, Ok, Err}
use Rattle.literals.specs.declared.Lits.{Lits}
use Rattle.rules.specs.declared.Choice.{Choice}
use Rattle.rules.specs.declared.Losses.{Losses}
use Rattle.rules.specs.Desk.{variables, in_use, row_on, decisions}
use Rattle.rules.specs.Bound.{bound}
use Rattle.rules.specs.Groups.{Weights, hunted, group_of, working_weight, hunts_on, groups_bound}
use Rattle.rules.specs.Choice.{choice_of, losses_by}
use Rattle.rules.specs.Walk.{searched}
use Rattle.rules.specs.Text.{bytes}
use Rattle.rules.specs.Program.{refusal_text, found_text, outcome_text, table_outcome}
use Rattle.rules.specs.Calls.{decide, after_call}
use Rattle.rules.specs.Examples.{Example, example, x, not-x, row, desk, p5}
use Rattle.rules.specs.declared.Found.{Found}
use Rattle.rules.specs.declared.Refusal.{Refusal}

-- the bound of document 01, and the bound by groups
abbrev bounds : List ℕ → List ℕ
bounds d = bound d (decisions d) ∷ groups_bound d (decisions d) ∷ []

-- the rows of the first group, oldest first and the conflict last
abbrev first_group : List ℕ → List ℕ
first_group d =
    let lits : ℕ → Lits = λ i. (row_on d i).lits in
    let W : Weights = working_weight d (decisions d) in
    (group_of lits W (decisions d) (hunted lits W (in_use d) (variables d) (decisions d))).rows

-- the working weights of the first n rows after k hunts
abbrev weights_left : List ℕ → ℕ → ℕ → List ℕ
weights_left d k zero = []
weights_left d k (suc n) = weights_left d k n ++ ((hunts_on d (decisions d) k).weights n ∷ [])

-- the eight clauses of source document 001, with these weights, or 1
abbrev eight : List ℕ → List ℕ
eight w =
    row (x 1 ∷ []) (get_or w 0 1)
    ++ (row (not-x 1 ∷ x 2 ∷ []) (get_or w 1 1)
    ++ (row (not-x 1 ∷ x 3 ∷ []) (get_or w 2 1)
    ++ (row (not-x 2 ∷ not-x 3 ∷ x 4 ∷ []) (get_or w 3 1)
    ++ (row (x 5 ∷ []) (get_or w 4 1)
    ++ (row (not-x 5 ∷ x 6 ∷ []) (get_or w 5 1)
    ++ (row (not-x 5 ∷ x 7 ∷ []) (get_or w 6 1) ++ row (not-x 6 ∷ not-x 7 ∷ not-x 4 ∷ []) (get_or w 7 1)))))))

-- P4's rows, of which the first has this weight
abbrev starred : ℕ → List ℕ
starred w =
    row (x 1 ∷ []) w
    ++ (row (not-x 1 ∷ x 2 ∷ []) 1
    ++ (row (not-x 1 ∷ not-x 2 ∷ []) 1 ++ (row (not-x 1 ∷ x 3 ∷ []) 1 ++ row (not-x 1 ∷ not-x 3 ∷ []) 1)))

-- two groups, by either unit
abbrev two_ways : List ℕ
two_ways =
    row (x 1 ∷ []) 1
    ++ (row (x 2 ∷ []) 1
    ++ (row (not-x 2 ∷ x 4 ∷ []) 1
    ++ (row (not-x 2 ∷ not-x 4 ∷ []) 1 ++ (row (not-x 1 ∷ x 3 ∷ []) 1 ++ row (not-x 1 ∷ not-x 3 ∷ []) 1))))

-- source document 001, its example 1
abbrev one_by_up : List ℕ
one_by_up =
    row (x 1 ∷ []) 1
    ++ (row (x 2 ∷ []) 1
    ++ (row (x 3 ∷ []) 1
    ++ (row (not-x 1 ∷ x 4 ∷ []) 1
    ++ (row (not-x 1 ∷ x 5 ∷ []) 1
    ++ (row (not-x 4 ∷ not-x 5 ∷ []) 1
    ++ (row (not-x 1 ∷ not-x 2 ∷ not-x 3 ∷ []) 1 ++ row (x 1 ∷ not-x 2 ∷ []) 1))))))

abbrev clashing : List ℕ
clashing = row (x 1 ∷ []) 1 ++ (row (x 2 ∷ []) 1 ++ (row (not-x 1 ∷ []) 1 ++ (row (not-x 2 ∷ []) 1 ++ row (not-x 2 ∷ []) 3)))

-- a free variable, and a group on the two behind it
abbrev behind_one : List ℕ
behind_one = row (x 2 ∷ []) 1 ++ (row (not-x 2 ∷ x 3 ∷ []) 1 ++ row (not-x 2 ∷ not-x 3 ∷ []) 1)

abbrev search_text : ℕ → Losses → Result Found Refusal → List ℕ
search_text variables root (Ok f) = found_text variables root f
search_text variables root (Err r) = refusal_text r

-- the lines of a search by the bound that is chosen, with that bound at its root
abbrev chosen : Choice → ℕ → List ℕ → List ℕ
chosen choice budget d = search_text (variables d) (losses_by choice d (decisions d)) (searched d choice budget)

abbrev pub group_examples : List Example
group_examples =
    example "source 001: its eight clauses are a group, and no units clash"
    (bounds (desk 7 (eight []) 8) ++ first_group (desk 7 (eight []) 8))
    (0 ∷ 1 ∷ 0 ∷ 4 ∷ 1 ∷ 2 ∷ 5 ∷ 6 ∷ 3 ∷ 7 ∷ [])
    ∷ example "a group costs its smallest weight, taken from each of its rows"
    (bounds (desk 7 (eight (9 ∷ 5 ∷ 7 ∷ 4 ∷ 8 ∷ 6 ∷ 3 ∷ 9 ∷ [])) 8) ++ weights_left (desk 7 (eight (9 ∷ 5 ∷ 7 ∷ 4 ∷ 8 ∷ 6 ∷ 3 ∷ 9 ∷ [])) 8) 1 8)
    (0 ∷ 3 ∷ 6 ∷ 2 ∷ 4 ∷ 1 ∷ 5 ∷ 3 ∷ 0 ∷ 6 ∷ [])
    ∷ example "P4: its one unit is in one group, where an old cleaner claims 2"
    (bounds (desk 3 (starred 1) 5))
    (0 ∷ 1 ∷ [])
    ∷ example "with weight 2 it is in two"
    (bounds (desk 3 (starred 2) 5))
    (0 ∷ 2 ∷ [])
    ∷ example "source 001, example 1: oldest unit first finds one group"
    (bounds (desk 5 one_by_up 8) ++ first_group (desk 5 one_by_up 8))
    (0 ∷ 1 ∷ 0 ∷ 1 ∷ 2 ∷ 6 ∷ [])
    ∷ example "the oldest unit's group is found first"
    (bounds (desk 4 two_ways 6) ++ first_group (desk 4 two_ways 6))
    (0 ∷ 2 ∷ 0 ∷ 4 ∷ 5 ∷ [])
    ∷ example "what is not needed is not in the group: two pairs of clashing units; of equal rows the first"
    (bounds (desk 2 clashing 5) ++ weights_left (desk 2 clashing 5) 2 5)
    (2 ∷ 2 ∷ 0 ∷ 0 ∷ 0 ∷ 0 ∷ 3 ∷ [])
    ∷ example "P5: its rows are a group; with x1 true units clash; with x1 false row 0 is lost, and no more"
    (bounds (desk 2 p5 4) ++ (bounds (after_call (desk 2 p5 4) (decide (pos 1))) ++ bounds (after_call (desk 2 p5 4) (decide (negsuc 0)))))
    (0 ∷ 2 ∷ 2 ∷ 2 ∷ 3 ∷ 3 ∷ [])
    ∷ example "a search by document 01's bound enters both values of a free variable"
    (chosen Choice.Units 100 (desk 3 behind_one 3))
    (bytes "status=done\nweight=1\nnodes=9\nreading=1 2 3\nconceded=0\nlost=0\nforeseen=0\n")
    ∷ example "a search by groups cuts the second at once"
    (chosen Choice.Groups 100 (desk 3 behind_one 3))
    (bytes "status=done\nweight=1\nnodes=7\nreading=1 2 3\nconceded=0\nlost=0\nforeseen=1\n")
    ∷ example "so that a budget of 7 is enough for the one, and not for the other"
    (chosen Choice.Groups 7 (desk 3 behind_one 3) ++ chosen Choice.Units 7 (desk 3 behind_one 3))
    (bytes "status=done\nweight=1\nnodes=7\nreading=1 2 3\nconceded=0\nlost=0\nforeseen=1\n"
    ++ bytes "status=stopped\nweight=1\nnodes=7\nreading=1 2 3\nconceded=0\nlost=0\nforeseen=0\n")
    ∷ example "the program takes document 01's"
    (outcome_text (table_outcome 3 7 3 behind_one))
    (chosen Choice.Units 7 (desk 3 behind_one 3))
    ∷ example "in C 0 is document 01's bound, and 1, 2 and the largest number are groups"
    (chosen (choice_of 0) 7 (desk 3 behind_one 3)
    ++ (chosen (choice_of 1) 0 (desk 3 behind_one 3)
    ++ (chosen (choice_of 2) 0 (desk 3 behind_one 3) ++ chosen (choice_of 18_446_744_073_709_551_615) 0 (desk 3 behind_one 3))))
    (chosen Choice.Units 7 (desk 3 behind_one 3)
    ++ (chosen Choice.Groups 0 (desk 3 behind_one 3) ++ (chosen Choice.Groups 0 (desk 3 behind_one 3) ++ chosen Choice.Groups 0 (desk 3 behind_one 3))))
    ∷ []
