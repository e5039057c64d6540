-- Further examples, beside document 01's own, in the same table: each limit from below and from above, and the words of a desk one by one.
-- The first three have the figures as the documents write them, so that a figure that is changed at its home is noticed; behind them rows loaded and C
-- stand by name.
use Rattle.std.specs.Prelude.{Result, Ok, Err}
use Rattle.std.specs.Prelude.{ℕ, zero, suc, ◌+◌, ◌-◌, List, [], ◌∷◌, ◌++◌, Bool, true, false, set, take, drop, replicate, pos, negsuc}
use Rattle.rules.specs.Refusals.{number_of, place_of}
use Rattle.rules.specs.Table.{most_rows, marked_row, hard_row, row_words_of, weighed}
use Rattle.rules.specs.Desk.{most_capacity, desk_words, in_limits, load_why, load_desk}
use Rattle.rules.specs.Text.{bytes}
use Rattle.rules.specs.Program.{answer}
use Rattle.rules.specs.Figures.{figures}
use Rattle.rules.specs.Calls.{Call, decide, rewrite, take_back, load, call_why, after_call, after_calls}
use Rattle.rules.specs.Examples.{Example, example, x, not-x, row, desk, refusal, account, p5, p7, p8}
use Rattle.rules.specs.declared.Weight.{Weight}
use Rattle.rules.specs.declared.Refusal.{Refusal}

-- n rows that no reading satisfies, of weight 1
abbrev empties : ℕ → List ℕ
empties zero = []
empties (suc n) = row [] 1 ++ empties n

-- n rows (not i, i + 1) from i on, of weight 1
abbrev links : ℕ → ℕ → List ℕ
links i zero = []
links i (suc n) = row (not-x i ∷ x (suc i) ∷ []) 1 ++ links (suc i) n

-- n numbers from i on
abbrev from : ℕ → ℕ → List ℕ
from i zero = []
from i (suc n) = i ∷ from (suc i) n

-- what a load of a table answers, with room for c rows, on so many lent words
abbrev loading : ℕ → List ℕ → ℕ → ℕ → List ℕ
loading n table c room = refusal (load_why n table c (replicate room 9))

-- what a call answers
abbrev calling : List ℕ → Call → List ℕ
calling d call = refusal (call_why d call)

-- what each of some calls answers on the same desk
abbrev answers : List ℕ → List Call → List ℕ
answers d [] = []
answers d (call ∷ calls) = calling d call ++ answers d calls

-- yes as 1, no as 0
abbrev answer_of : Bool → List ℕ
answer_of true = 1 ∷ []
answer_of false = 0 ∷ []

abbrev weight_number : Result Weight Refusal → List ℕ
weight_number (Ok weighed) = weighed.weight ∷ answer_of weighed.hold
weight_number (Err r) = number_of r ∷ place_of r ∷ []

-- n words from a place on
abbrev words : List ℕ → ℕ → ℕ → List ℕ
words d at n = take n (drop at d)

-- all words, but for those between two places, of which there is the sum
abbrev total : List ℕ → ℕ
total [] = 0
total (w ∷ ws) = w + total ws

abbrev but : ℕ → ℕ → List ℕ → List ℕ
but from to d = take from d ++ (total (drop from (take to d)) ∷ drop to d)

-- chain of k links, and fork behind k links, on rows in order
abbrev chained : ℕ → List ℕ
chained k = row (x 1 ∷ []) 1 ++ (links 1 k ++ row (not-x (suc k) ∷ []) 1)

abbrev forking : ℕ → List ℕ
forking k =
    row (x 1 ∷ []) 1
    ++ (links 1 k
    ++ (row (not-x (suc k) ∷ x 20 ∷ []) 1 ++ (row (not-x (suc k) ∷ x 21 ∷ []) 1 ++ row (not-x 20 ∷ not-x 21 ∷ []) 1)))

-- a desk with one variable and so many steps, told by its head alone
abbrev steps_stand : ℕ → List ℕ
steps_stand n = set (desk 1 [] 0) 3 n

abbrev pub further : List Example
further =
    example "limit: 64 variables, 2,048 rows, 1,000,000,000 in weight, C to 4,096, 256 steps"
    (figures.variables ∷ figures.rows ∷ figures.weight ∷ figures.capacity ∷ figures.steps ∷ [])
    (64 ∷ 2_048 ∷ 1_000_000_000 ∷ 4_096 ∷ 256 ∷ [])
    ∷ example "limit: 12 rows named, 8 links, 10 digits, a budget of 32 bits; of an input 65,536 bytes and 512 rows"
    (figures.named ∷ figures.longest ∷ figures.digits ∷ figures.budget ∷ figures.input ∷ figures.input_rows ∷ [])
    (12 ∷ 8 ∷ 10 ∷ 4_294_967_295 ∷ 65_536 ∷ 512 ∷ [])
    ∷ example "layout: 4 words of a row, 8 of a head, 16 of an entry, 4,096 of all entries"
    (figures.row_words ∷ figures.head ∷ figures.entry_words ∷ figures.entries_words ∷ [])
    (4 ∷ 8 ∷ 16 ∷ 4_096 ∷ [])
    ∷ example "limit: 64 variables, and variable 64"
    (loading 64 (row (x 64 ∷ not-x 1 ∷ []) 1) 1 (desk_words 1))
    []
    ∷ example "limit: 65 variables"
    (loading 65 [] 0 (desk_words 0))
    (1 ∷ 0 ∷ [])
    ∷ example "limit: table words are a multiple of 4"
    (loading 1 (0 ∷ 0 ∷ 1 ∷ []) 1 (desk_words 1))
    (2 ∷ 0 ∷ [])
    ∷ example "limit: the most rows: not 2, but 3 where C is one below"
    (loading 0 (empties most_rows) (most_rows - 1) (desk_words most_rows))
    (3 ∷ 0 ∷ [])
    ∷ example "limit: one row more"
    (loading 0 (empties (suc most_rows)) (most_rows - 1) (desk_words most_rows))
    (2 ∷ 0 ∷ [])
    ∷ example "limit: C = the rows loaded"
    (loading 0 (empties 2) 2 (desk_words 2))
    []
    ∷ example "limit: C at its most"
    (loading 0 [] most_capacity (desk_words most_capacity))
    []
    ∷ example "limit: C one above"
    (loading 0 [] (suc most_capacity) (desk_words (suc most_capacity)))
    (3 ∷ 0 ∷ [])
    ∷ example "limit: of 8 + 4C + 4,096 words one is missing"
    (loading 0 [] 1000 8103)
    (4 ∷ 0 ∷ [])
    ∷ example "limit: a variable both ways, in row 1"
    (loading 2 (row [] 1 ++ row (x 2 ∷ not-x 2 ∷ []) 0) 2 (desk_words 2))
    (5 ∷ 1 ∷ [])
    ∷ example "limit: a variable above the count"
    (loading 63 (row (x 64 ∷ []) 1) 1 (desk_words 1))
    (5 ∷ 0 ∷ [])
    ∷ example "limit: weight 1,000,000,000"
    (loading 0 (row [] 1_000_000_000) 1 (desk_words 1))
    []
    ∷ example "limit: weight 1,000,000,001, in row 1"
    (loading 0 (row [] 1 ++ row [] 1_000_000_001) 2 (desk_words 2))
    (6 ∷ 1 ∷ [])
    ∷ example "limit: weight 0"
    (loading 0 (row [] 0) 1 (desk_words 1))
    (6 ∷ 0 ∷ [])
    ∷ example "limit: a reading of 2 variables, and of 3"
    (weight_number (weighed 2 p8 3) ++ weight_number (weighed 2 p8 4))
    (1 ∷ 1 ∷ 8 ∷ 0 ∷ [])
    ∷ example "layout: an accepted load, and two words past the desk"
    (but 12 4112 (load_desk 1 (row (not-x 1 ∷ []) 7) 2 (replicate 4114 9)))
    ((1 ∷ 1 ∷ 2 ∷ 0 ∷ 0 ∷ 0 ∷ 0 ∷ 1 ∷ 0 ∷ 1 ∷ 7 ∷ 0 ∷ []) ++ (0 ∷ 9 ∷ 9 ∷ []))
    ∷ example "layout: a refused load leaves the words as found"
    (but 3 4112 (load_desk 1 (row (not-x 2 ∷ []) 7) 2 (replicate 4114 9)))
    (9 ∷ 9 ∷ 9 ∷ 36_981 ∷ 9 ∷ 9 ∷ [])
    ∷ example "limit: (b) with 64 variables, the most rows loaded, C in use, 256 steps"
    (answer_of (in_limits (64 ∷ most_capacity ∷ most_capacity ∷ 256 ∷ 0 ∷ 0 ∷ 0 ∷ most_rows ∷ [])))
    (1 ∷ [])
    ∷ example "limit: (b) with 65 variables"
    (answer_of (in_limits (65 ∷ most_capacity ∷ most_capacity ∷ 256 ∷ 0 ∷ 0 ∷ 0 ∷ most_rows ∷ [])))
    (0 ∷ [])
    ∷ example "limit: (b) with one row more loaded"
    (answer_of (in_limits (64 ∷ most_capacity ∷ most_capacity ∷ 256 ∷ 0 ∷ 0 ∷ 0 ∷ suc most_rows ∷ [])))
    (0 ∷ [])
    ∷ example "limit: (b) with rows loaded above those in use"
    (answer_of (in_limits (64 ∷ (most_rows - 1) ∷ most_capacity ∷ 256 ∷ 0 ∷ 0 ∷ 0 ∷ most_rows ∷ [])))
    (0 ∷ [])
    ∷ example "limit: (b) with rows in use above C"
    (answer_of (in_limits (64 ∷ most_capacity ∷ (most_capacity - 1) ∷ 256 ∷ 0 ∷ 0 ∷ 0 ∷ most_rows ∷ [])))
    (0 ∷ [])
    ∷ example "limit: (b) with 257 steps"
    (answer_of (in_limits (64 ∷ most_capacity ∷ most_capacity ∷ 257 ∷ 0 ∷ 0 ∷ 0 ∷ most_rows ∷ [])))
    (0 ∷ [])
    ∷ example "limit: (a) to (e) hold, nothing stands"
    (calling (desk 1 (row (x 1 ∷ []) 1) 1) take_back)
    (16 ∷ 0 ∷ [])
    ∷ example "limit: (a) with C one above its most"
    (calling (set (replicate (desk_words (suc most_capacity)) 0) 2 (suc most_capacity)) take_back)
    (10 ∷ 0 ∷ [])
    ∷ example "limit: (b) is asked"
    (calling (set (replicate (desk_words 1) 0) 0 65) take_back)
    (10 ∷ 0 ∷ [])
    ∷ example "limit: (c) with a variable above the count"
    (calling (set (desk 1 (row (x 1 ∷ []) 1) 1) 0 0) take_back)
    (10 ∷ 0 ∷ [])
    ∷ example "limit: (d) with 1,000,000,000 in all"
    (calling (set (desk 1 (row (x 1 ∷ []) 1) 1) 4 999_999_999) take_back)
    (16 ∷ 0 ∷ [])
    ∷ example "limit: (d) with 1,000,000,001 in all"
    (calling (set (desk 1 (row (x 1 ∷ []) 1) 1) 4 1_000_000_000) take_back)
    (10 ∷ 0 ∷ [])
    ∷ example "limit: (e) with a true variable that is not decided"
    (calling (set (desk 1 [] 0) 6 1) take_back)
    (10 ∷ 0 ∷ [])
    ∷ example "limit: (e) with a decided variable above the count"
    (calling (set (desk 1 [] 0) 5 2) take_back)
    (10 ∷ 0 ∷ [])
    ∷ example "limit: a step beyond 256"
    (calling (steps_stand 256) (decide (pos 1)))
    (11 ∷ 0 ∷ [])
    ∷ example "limit: 257 steps"
    (calling (steps_stand 257) (decide (pos 1)))
    (10 ∷ 0 ∷ [])
    ∷ example "layout: step 256, a decision: the head, its entry, and two words past the desk"
    (but 8 4088 (after_call (steps_stand 255) (decide (pos 1))))
    ((1 ∷ 0 ∷ 0 ∷ 256 ∷ 0 ∷ 1 ∷ 1 ∷ 0 ∷ []) ++ (0 ∷ (0 ∷ 1 ∷ 1 ∷ (replicate 13 0 ++ (9 ∷ 9 ∷ [])))))
    ∷ example "layout: a decision behind P5's chain: the head, in which conceded stays"
    (words (after_calls (desk 2 p5 4) (rewrite 3 (0 ∷ 2 ∷ 1 ∷ []) ∷ decide (pos 2) ∷ [])) 0 8)
    (2 ∷ 4 ∷ 4 ∷ 2 ∷ 2 ∷ 2 ∷ 2 ∷ 3 ∷ [])
    ∷ example "layout: two decisions: the head and both entries"
    (words (after_calls (desk 64 [] 0) (decide (negsuc 1) ∷ decide (pos 64) ∷ [])) 0 40)
    ((64 ∷ 0 ∷ 0 ∷ 2 ∷ 0 ∷ 9223372036854775810 ∷ 9223372036854775808 ∷ 0 ∷ []) ++ (0 ∷ 2 ∷ 0 ∷ (replicate 13 0 ++ (0 ∷ 64 ∷ 1 ∷ replicate 13 0))))
    ∷ example "call: two refused loads behind a decision leave the desk as it is"
    (words (after_calls (desk 2 p8 2) (decide (pos 1) ∷ load 65 [] 0 ∷ load 2 p8 1 ∷ [])) 0 8)
    (2 ∷ 2 ∷ 2 ∷ 1 ∷ 0 ∷ 1 ∷ 1 ∷ 2 ∷ [])
    ∷ example "limit: literals 0, 65 and -65, and 64 and -64, of which none is refused"
    (answers (desk 64 [] 0) (decide (pos 0) ∷ decide (pos 65) ∷ decide (negsuc 64) ∷ decide (pos 64) ∷ decide (negsuc 63) ∷ []))
    (12 ∷ 0 ∷ 12 ∷ 0 ∷ 12 ∷ 0 ∷ [])
    ∷ example "limit: a literal above the count, and one already decided"
    (answers (after_call (desk 2 [] 0) (decide (pos 2))) (decide (negsuc 2) ∷ decide (negsuc 1) ∷ []))
    (12 ∷ 0 ∷ 12 ∷ 0 ∷ [])
    ∷ example "limit: kinds 0 and 5, a row not in use, a row named twice, a merge of one row and of three"
    (answers (desk 2 p5 4)
    (rewrite 0 [] ∷ rewrite 5 (0 ∷ 1 ∷ []) ∷ rewrite 1 (0 ∷ 3 ∷ []) ∷ rewrite 1 (0 ∷ 0 ∷ []) ∷ rewrite 1 (0 ∷ []) ∷ rewrite 1 (0 ∷ 1 ∷ 2 ∷ []) ∷ []))
    (13 ∷ 0 ∷ 13 ∷ 0 ∷ 13 ∷ 0 ∷ 13 ∷ 0 ∷ 13 ∷ 0 ∷ 13 ∷ 0 ∷ [])
    ∷ example "limit: a spent row named"
    (calling (after_call (desk 2 p7 4) (rewrite 1 (0 ∷ 1 ∷ []))) (rewrite 1 (0 ∷ 1 ∷ [])))
    (14 ∷ 0 ∷ [])
    ∷ example "limit: a satisfied row named"
    (calling (after_call (desk 2 p8 2) (decide (pos 1))) (rewrite 1 (0 ∷ 1 ∷ [])))
    (14 ∷ 0 ∷ [])
    ∷ example "limit: remnants that don't fit"
    (calling (desk 2 p5 4) (rewrite 1 (0 ∷ 1 ∷ [])))
    (14 ∷ 0 ∷ [])
    ∷ example "step: a merge in the other order"
    (calling (desk 2 p7 3) (rewrite 1 (1 ∷ 0 ∷ [])))
    []
    ∷ example "step: two empty remnants do not merge"
    (calling (desk 0 (empties 2) 3) (rewrite 1 (0 ∷ 1 ∷ [])))
    (14 ∷ 0 ∷ [])
    ∷ example "step: a shift takes w from x1 and (-1,2), adds (1,-2) and x2"
    (account (after_call (desk 2 (row (x 1 ∷ []) 3 ++ row (not-x 1 ∷ x 2 ∷ []) 2) 4) (rewrite 2 (0 ∷ 1 ∷ []))))
    (0 ∷ (row (x 1 ∷ []) 1 ++ (row (not-x 1 ∷ x 2 ∷ []) 0 ++ (row (x 1 ∷ not-x 2 ∷ []) 2 ++ row (x 2 ∷ []) 2))))
    ∷ example "step: a chain comes back to its first variable"
    (calling (desk 2 (row (x 1 ∷ []) 1 ++ (row (not-x 1 ∷ x 2 ∷ []) 1 ++ (row (not-x 2 ∷ x 1 ∷ []) 1 ++ row (not-x 1 ∷ []) 1))) 6)
    (rewrite 3 (from 0 4)))
    []
    ∷ example "step: a fork comes back to a variable of its chain"
    (calling (desk 3 (row (x 1 ∷ []) 1 ++ (links 1 1 ++ (row (not-x 2 ∷ x 3 ∷ []) 1 ++ (row (not-x 2 ∷ x 1 ∷ []) 1 ++ row (not-x 3 ∷ not-x 1 ∷ []) 1)))) 8)
    (rewrite 4 (from 0 5)))
    []
    ∷ example "layout: P5's chain: the head, rows, its entry, and two words past the desk"
    (but 40 4120 (after_call (desk 2 p5 4) (rewrite 3 (0 ∷ 2 ∷ 1 ∷ []))))
    ((2 ∷ 4 ∷ 4 ∷ 1 ∷ 2 ∷ 0 ∷ 0 ∷ 3 ∷ []) ++ ((1 ∷ 0 ∷ 1 ∷ 0 ∷ 2 ∷ 0 ∷ 3 ∷ 0 ∷ 0 ∷ 3 ∷ 0 ∷ 0 ∷ 3 ∷ 0 ∷ 2 ∷ 0 ∷ [])
    ++ (3 ∷ 2 ∷ 3 ∷ 0 ∷ 2 ∷ 1 ∷ (replicate 9 0 ++ (3 ∷ 0 ∷ 9 ∷ 9 ∷ [])))))
    ∷ example "limit: a chain of 8 links names 10 rows, 0 in those not needed"
    (words (after_call (desk 9 (chained 8) 18) (rewrite 3 (from 0 10))) 80 16)
    (3 ∷ 1 ∷ 10 ∷ (from 0 10 ++ (0 ∷ 0 ∷ 10 ∷ [])))
    ∷ example "limit: a chain of 9 links"
    (calling (desk 10 (chained 9) 20) (rewrite 3 (from 0 11)))
    (13 ∷ 0 ∷ [])
    ∷ example "limit: a fork behind 8 links names 12 rows"
    (words (after_call (desk 21 (forking 8) 22) (rewrite 4 (from 0 12))) 96 16)
    (4 ∷ 1 ∷ 12 ∷ (from 0 12 ++ (12 ∷ [])))
    ∷ example "limit: a fork behind 9 links"
    (calling (desk 21 (forking 9) 24) (rewrite 4 (from 0 13)))
    (13 ∷ 0 ∷ [])
    ∷ example "limit: the longest fork gives 10 rows: C = 21 gives 15"
    (calling (desk 21 (forking 8) 21) (rewrite 4 (from 0 12)))
    (15 ∷ 0 ∷ [])
    ∷ example "limit: budget 4,294,967,295"
    (answer (bytes "vars=0\nbudget=4294967295\nrows=0\n"))
    (bytes "status=done\nweight=0\nnodes=1\nreading=\nconceded=0\nlost=0\nforeseen=0\n")
    ∷ example "limit: budget 4,294,967,296"
    (answer (bytes "vars=0\nbudget=4294967296\nrows=0\n"))
    (bytes "status=refused\nnumber=9\nplace=0\n")
    ∷ example "limit: 65 variables in a text"
    (answer (bytes "vars=65\nbudget=4294967296\nrows=513\n"))
    (bytes "status=refused\nnumber=1\nplace=0\n")
    ∷ example "limit: 513 rows in a text"
    (answer (bytes "vars=64\nbudget=1\nrows=513\n"))
    (bytes "status=refused\nnumber=2\nplace=0\n")
    ∷ example "limit: 512 rows in a text, of which the first is missing"
    (answer (bytes "vars=64\nbudget=1\nrows=512\n"))
    (bytes "status=refused\nnumber=20\nplace=4\n")
    ∷ example "line 1: a number of 11 digits"
    (answer (bytes "vars=10000000000\nbudget=1\nrows=0\n"))
    (bytes "status=refused\nnumber=20\nplace=1\n")
    ∷ example "line 2: a leading zero"
    (answer (bytes "vars=1\nbudget=01\nrows=0\n"))
    (bytes "status=refused\nnumber=20\nplace=2\n")
    ∷ example "line 3: unended"
    (answer (bytes "vars=1\nbudget=1\nrows=0"))
    (bytes "status=refused\nnumber=20\nplace=3\n")
    ∷ example "line 5: missing; 2, with a leading zero, and nothing, for a mark"
    (answer (bytes "vars=2\nbudget=1\nrows=1\nweight=1\n") ++ (answer (bytes "vars=2\nbudget=1\nrows=1\nweight=1\nhard=2\nlits=1\n")
    ++ (answer (bytes "vars=2\nbudget=1\nrows=1\nweight=1\nhard=00\nlits=1\n") ++ answer (bytes "vars=2\nbudget=1\nrows=1\nweight=1\nhard=\nlits=1\n"))))
    (bytes "status=refused\nnumber=20\nplace=5\nstatus=refused\nnumber=20\nplace=5\nstatus=refused\nnumber=20\nplace=5\nstatus=refused\nnumber=20\nplace=5\n")
    ∷ example "line 9: variables that do not rise"
    (answer (bytes "vars=2\nbudget=1\nrows=2\nweight=1\nhard=0\nlits=1 2\nweight=1\nhard=0\nlits=-2 1\n"))
    (bytes "status=refused\nnumber=20\nplace=9\n")
    ∷ example "line 7: it follows the last row"
    (answer (bytes "vars=2\nbudget=1\nrows=1\nweight=1\nhard=0\nlits=1 2\n\n"))
    (bytes "status=refused\nnumber=20\nplace=7\n")
    ∷ example "hard: two rows that clash are impossible; budget 0 stops, with 2 nodes to go"
    (answer (bytes "vars=1\nbudget=100\nrows=2\nweight=0\nhard=1\nlits=1\nweight=0\nhard=1\nlits=-1\n")
    ++ answer (bytes "vars=1\nbudget=2\nrows=2\nweight=0\nhard=1\nlits=1\nweight=0\nhard=1\nlits=-1\n"))
    (bytes "status=impossible\nweight=none\nnodes=3\nreading=none\nconceded=0\nlost=0\nforeseen=0\n"
    ++ bytes "status=stopped\nweight=none\nnodes=2\nreading=none\nconceded=0\nlost=0\nforeseen=0\n")
    ∷ example "hard: a hard row against heavier soft ones"
    (answer (bytes "vars=1\nbudget=100\nrows=3\nweight=7\nhard=0\nlits=1\nweight=0\nhard=1\nlits=-1\nweight=2\nhard=0\nlits=1\n"))
    (bytes "status=done\nweight=9\nnodes=3\nreading=-1\nconceded=0\nlost=0\nforeseen=0\n")
    ∷ example "hard: of two facts with large weights that clash the search breaks one"
    (answer (bytes "vars=1\nbudget=100\nrows=2\nweight=500000000\nhard=0\nlits=1\nweight=500000000\nhard=0\nlits=-1\n"))
    (bytes "status=done\nweight=500000000\nnodes=3\nreading=1\nconceded=0\nlost=0\nforeseen=500000000\n")
    ∷ example "hard: with a weight, and another fourth word, are 6"
    (loading 1 (row_words_of (marked_row (x 1) 1 1)) 1 (desk_words 1) ++ loading 1 (row_words_of (marked_row (x 1) 1 2)) 1 (desk_words 1))
    (6 ∷ 0 ∷ 6 ∷ 0 ∷ [])
    ∷ example "hard: both are 10 on a desk"
    (calling (set (desk 1 (row_words_of (hard_row (x 1))) 1) 10 1) take_back ++ calling (set (desk 1 (row_words_of (hard_row (x 1))) 1) 11 2) take_back)
    (10 ∷ 0 ∷ 10 ∷ 0 ∷ [])
    ∷ example "hard: a row named by a rewriting is 14, and in the last entry 10"
    (calling (desk 1 (row (x 1 ∷ []) 3 ++ row_words_of (hard_row (not-x 1))) 2) (rewrite 3 (0 ∷ 1 ∷ []))
    ++ calling (set (after_call (desk 1 (row (x 1 ∷ []) 3 ++ row (not-x 1 ∷ []) 3) 2) (rewrite 3 (0 ∷ 1 ∷ []))) 11 1) take_back)
    (14 ∷ 0 ∷ 10 ∷ 0 ∷ [])
    ∷ example "hard: weights of readings, and whether every hard row holds"
    (weight_number (weighed 1 (row (x 1 ∷ []) 3 ++ row_words_of (hard_row (not-x 1))) 1)
    ++ weight_number (weighed 1 (row (x 1 ∷ []) 3 ++ row_words_of (hard_row (not-x 1))) 0))
    (0 ∷ 0 ∷ 3 ∷ 1 ∷ [])
    ∷ []
