-- A trail, the rows of a group and working weights as code keeps them: by index, with what joined first at 0.
use Rattle.std.specs.Prelude.{ℕ, zero, suc, List, [], ◌∷◌, ◌++◌, get_or}
use Rattle.rules.specs.Groups.{Weights, Forced}

-- the first n entries, of which entry k has this mask and this row
unfoldable pub trail_of : (ℕ → ℕ) → (ℕ → ℕ) → ℕ → List Forced
trail_of mask row zero = []
trail_of mask row (suc n) = trail_of mask row n ++ (record { variable = mask n; row = row n } ∷ [])

-- the first n rows of a group: a row that joins stands in front
unfoldable pub rows_of : (ℕ → ℕ) → ℕ → List ℕ
rows_of row zero = []
rows_of row (suc n) = row n ∷ rows_of row n

-- the working weights that words hold
abbrev pub weights_in : List ℕ → Weights
weights_in words i = get_or words i 0
