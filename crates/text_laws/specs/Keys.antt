-- The keys of document 01's text, as bytes: what the code spells, and what `bytes` makes of the definitions' strings.
use Rattle.std.specs.Prelude.{ℕ, List, [], ◌∷◌}

abbrev pub equal_sign : ℕ
equal_sign = 61

abbrev pub vars_key : List ℕ
vars_key = 118 ∷ 97 ∷ 114 ∷ 115 ∷ 61 ∷ []

abbrev pub budget_key : List ℕ
budget_key = 98 ∷ 117 ∷ 100 ∷ 103 ∷ 101 ∷ 116 ∷ 61 ∷ []

abbrev pub rows_key : List ℕ
rows_key = 114 ∷ 111 ∷ 119 ∷ 115 ∷ 61 ∷ []

abbrev pub weight_key : List ℕ
weight_key = 119 ∷ 101 ∷ 105 ∷ 103 ∷ 104 ∷ 116 ∷ 61 ∷ []

abbrev pub hard_key : List ℕ
hard_key = 104 ∷ 97 ∷ 114 ∷ 100 ∷ 61 ∷ []

abbrev pub lits_key : List ℕ
lits_key = 108 ∷ 105 ∷ 116 ∷ 115 ∷ 61 ∷ []
