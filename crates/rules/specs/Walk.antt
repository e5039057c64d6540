-- Document 01, "The bound and the walk": the walk with its budget, over any bound and any value tried first, and the search.
use Rattle.std.specs.Prelude.{ℕ, zero, suc, ◌+◌, List, [], ◌∷◌, ◌++◌, Bool, true, false, cond, not, leb, ltb, Option, Some, None, Result, Ok, Err}
use Rattle.std.specs.Int.Bits.{bit_or}
use Rattle.masks.specs.Masks.{has, single}
use Rattle.rules.specs.declared.Part.{Part}
use Rattle.rules.specs.declared.Choice.{Choice}
use Rattle.rules.specs.declared.Walked.{Walked}
use Rattle.rules.specs.declared.Status.{Status}
use Rattle.rules.specs.declared.Best.{Best}
use Rattle.rules.specs.declared.Found.{Found}
use Rattle.rules.specs.Refusals.{Judged}
use Rattle.rules.specs.Desk.{variables, decided, weight_on, decisions}
use Rattle.rules.specs.Table.{most_weight}
use Rattle.rules.specs.Bound.{dead, desk_why}
use Rattle.rules.specs.Choice.{bound_by}
use Rattle.rules.specs.declared.Refusal.{Refusal}

-- "a 32-bit number, 0 to 4,294,967,295"
abbrev pub most_budget : ℕ
most_budget = 4_294_967_295

-- "Fixing one more variable makes a new partial reading"
unfoldable pub fixed : Part → ℕ → Bool → Part
fixed p v value = record { decided = bit_or p.decided (single v); truths = cond value (bit_or p.truths (single v)) p.truths }

-- how far a walk has come: nodes visited, the weight to stay below, whether a reading is kept and which, whether a node was due that couldn't be
abbrev pub walked : ℕ → ℕ → Bool → ℕ → Bool → Walked
walked nodes best kept reading stopped = record { nodes = nodes; best = best; kept = kept; reading = reading; stopped = stopped }

-- "Visiting a node counts 1."
unfoldable pub visited : Walked → Walked
visited s = walked (s.nodes + 1) s.best s.kept s.reading s.stopped

-- "With no variable left, its bound becomes best and its reading is kept."
unfoldable pub kept_at : ℕ → ℕ → Walked → Walked
kept_at weight reading s = walked s.nodes weight true reading s.stopped

-- "if one was due and couldn't be, the search is stopped"
unfoldable pub halted : Walked → Walked
halted s = walked s.nodes s.best s.kept s.reading true

-- A node is due. "A node is entered only while the count is below the budget"; "If its bound is at least best, it is cut";
-- else what is beyond the cut.
abbrev pub entering : ℕ → ℕ → Walked → Walked → Walked
entering budget b s beyond = cond (ltb s.nodes budget) (cond (leb s.best b) (visited s) beyond) (halted s)

-- The walk below a node: the variables that are left, its partial reading, and how far the walk has come. "Otherwise the next
-- variable is tried true, then false": `first` says of each variable which value is tried first.
unfoldable pub walk : (Part → ℕ) → (ℕ → Bool) → ℕ → List ℕ → Part → Walked → Walked
walk bound first budget [] p s =
    let beyond = kept_at (bound p) p.truths (visited s) in
    entering budget (bound p) s beyond
walk bound first budget (v ∷ vs) p s =
    let one = walk bound first budget vs (fixed p v (first v)) (visited s) in
    let both = walk bound first budget vs (fixed p v (not (first v))) one in
    entering budget (bound p) s both

-- "the undecided variables in rising order", of those with a bit below n
unfoldable pub undecided : ℕ → ℕ → List ℕ
undecided zero decided = []
undecided (suc n) decided = undecided n decided ++ cond (has decided n) [] (n ∷ [])

-- "The walk starts with best = conceded + all weights in use + 1 and no reading."
unfoldable pub at_start : List ℕ → Walked
at_start d = walked 0 (weight_on d + 1) false 0 false

unfoldable pub walk_of : (Part → ℕ) → (ℕ → Bool) → List ℕ → ℕ → Walked
walk_of bound first d budget = walk bound first budget (undecided (variables d) (decided d)) (decisions d) (at_start d)

-- the price of a node, at which it is cut: its bound, by the one chosen, and more than any best where it is dead; and the value that is tried first:
-- "tried true, then false"
abbrev pub price_of : Choice → List ℕ → Part → ℕ
price_of choice d p = cond (dead d p) (most_weight + 1) (bound_by choice d p)

abbrev pub tried_first : ℕ → Bool
tried_first v = true

-- the walk of a search
abbrev pub walk_in : List ℕ → Choice → ℕ → Walked
walk_in d choice budget = walk_of (price_of choice d) tried_first d budget

-- "A finished search with no reading answers `status=impossible`"
abbrev pub status_of : Bool → Bool → Status
status_of true kept = Status.Stopped
status_of false true = Status.Done
status_of false false = Status.Impossible

abbrev pub best_of : Bool → ℕ → ℕ → Option Best
best_of true weight reading = Some (record { weight = weight; reading = reading })
best_of false weight reading = None

abbrev pub found_by : Walked → Found
found_by s = record { status = status_of s.stopped s.kept; best = best_of s.kept s.best s.reading; nodes = s.nodes }

abbrev pub searched_as : Judged → Found → Result Found Refusal
searched_as (Ok _) f = Ok f
searched_as (Err r) f = Err r

-- the search, or the refusal
unfoldable pub searched : List ℕ → Choice → ℕ → Result Found Refusal
searched d choice budget = searched_as (desk_why d) (found_by (walk_in d choice budget))
