-- Document 01, "The bound and the walk": lost, foreseen and the bound, under the decisions of a partial reading.
use Rattle.std.specs.Prelude.{ℕ, ◌+◌, min, List, [], ◌∷◌, Bool, cond, not, ◌&&◌}
use Rattle.masks.specs.Masks.{has, single}
use Rattle.masks.specs.Sums.{sum, every}
use Rattle.literals.specs.declared.Lits.{Lits}
use Rattle.literals.specs.Lits.{is_empty, same_lits}
use Rattle.rules.specs.declared.Row.{Row}
use Rattle.rules.specs.declared.Part.{Part}
use Rattle.rules.specs.declared.Losses.{Losses}
use Rattle.rules.specs.declared.Refusal.TheVariants.{BadDesk}
use Rattle.rules.specs.Refusals.{Judged, ◌when◌, first_due}
use Rattle.rules.specs.Table.{is_hard}
use Rattle.rules.specs.Desk.{variables, in_use, conceded, row_on, well_formed, satisfied, remnant}

-- a row's weight where the row is unsatisfied and its remnant passes a test
unfoldable pub weight_where : (Lits → Bool) → Part → Row → ℕ
weight_where test p row = cond (not (satisfied p row.lits) && test (remnant p row.lits)) row.weight 0

-- the weights of unsatisfied rows with an empty remnant
unfoldable pub lost_beyond : List ℕ → Part → ℕ
lost_beyond d p = sum (in_use d) (λ i. weight_where is_empty p (row_on d i))

-- "Lost: conceded, plus the weights of unsatisfied rows with an empty remnant."
unfoldable pub lost : List ℕ → Part → ℕ
lost d p = conceded d + lost_beyond d p

-- the summed weights of unsatisfied rows whose remnant is this literal alone
unfoldable pub unit_weight : List ℕ → Part → Lits → ℕ
unit_weight d p l = sum (in_use d) (λ i. weight_where (same_lits l) p (row_on d i))

-- the smaller of the two sums, positive and negative, of the variable with bit v
unfoldable pub foreseen_at : List ℕ → Part → ℕ → ℕ
foreseen_at d p v =
    min (unit_weight d p (record { positive = single v; negative = 0 })) (unit_weight d p (record { positive = 0; negative = single v }))

-- for each undecided variable
unfoldable pub foreseen : List ℕ → Part → ℕ
foreseen d p = sum (variables d) (λ v. cond (has p.decided v) 0 (foreseen_at d p v))

-- "Bound: lost, plus for each undecided variable the smaller of the two"
unfoldable pub bound : List ℕ → Part → ℕ
bound d p = lost d p + foreseen d p

-- Document 02, C-12: "The bound answers three numbers: conceded, lost beyond conceded, and the foreseen part."
unfoldable pub losses_at : List ℕ → Part → Losses
losses_at d p = record { conceded = conceded d; lost = lost_beyond d p; foreseen = foreseen d p }

-- what is certain: the weight of every reading below has it
abbrev pub certain : Losses → ℕ
certain l = l.conceded + l.lost

-- "Their sum is the bound of document 01."
abbrev pub total : Losses → ℕ
total l = certain l + l.foreseen

-- Document 02, C-16: "an unsatisfied hard row has an empty remnant", and the walk cuts the node
unfoldable pub lost_hard : Part → Row → Bool
lost_hard p row = is_hard row && (not (satisfied p row.lits) && is_empty (remnant p row.lits))

unfoldable pub dead : List ℕ → Part → Bool
dead d p = not (every (in_use d) (λ i. not (lost_hard p (row_on d i))))

-- Bound and search: 10.
unfoldable pub desk_why : List ℕ → Judged
desk_why d = first_due (BadDesk when not (well_formed d) ∷ [])
