-- What the functions that judge a last entry ask, and what they find, in words of the entry's numbers.
use Rattle.std.specs.Prelude.{ℕ, ◌+◌, ◌*◌, ◌≤◌, ◌<◌, ◌≡◌, List, Bool, true, not, ◌&&◌, ◌||◌, eqb, ltb}
use Rattle.masks.specs.Sums.{sum, every}
use Rattle.rules.specs.Table.{most_weight, is_hard}
use Rattle.rules.specs.Desk.{in_use, standing, row_on, well_formed}
use Rattle.rules.specs.Steps.{distinct, fewer_added, most_named}
use Rattle.rules.specs.TakeBack.{last_weight, last_named}

-- a well-formed desk on which a step stands
pub record Stands (d : List ℕ) : Type 0 where
  pub formed : well_formed d ≡ true
  pub some : 0 < standing d

-- n named rows, none twice, all below the first new row
unfoldable pub named_well : List ℕ → ℕ → ℕ → Bool
named_well d n first = distinct n (last_named d) && every n (λ i. ltb (last_named d i) first)

-- the rows in use above the first new row are what the kind adds
unfoldable pub added_well : List ℕ → ℕ → ℕ → ℕ → Bool
added_well d kind n first = eqb (in_use d + fewer_added kind) (first + n) || (eqb kind 1 && eqb (in_use d) first)

-- none of n named rows is hard
unfoldable pub soft_named : List ℕ → ℕ → Bool
soft_named d n = every n (λ i. not (is_hard (row_on d (last_named d i))))

-- the weights afterwards come to more than the limit
unfoldable pub over_after : List ℕ → ℕ → ℕ → ℕ → Bool
over_after d n first start = ltb most_weight (start + n * last_weight d + sum first (λ i. (row_on d i).weight))

-- an entry whose count and rows are right, with what they come to
pub record Counts (d : List ℕ) (n first start : ℕ) : Type 0 where
  pub stands : Stands d
  pub some : 1 ≤ n
  pub few : n ≤ most_named
  pub in_use_fits : first ≤ in_use d
  pub start_fits : start ≤ most_weight
