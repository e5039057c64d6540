-- The keys of an answer to a competition file, and the lines of it that are known, as bytes: what the code spells.
use Rattle.std.specs.Prelude.{ℕ, List, [], ◌∷◌}

abbrev pub refused_key : List ℕ
refused_key = 99 ∷ 32 ∷ 114 ∷ 101 ∷ 102 ∷ 117 ∷ 115 ∷ 101 ∷ 100 ∷ 58 ∷ 32 ∷ 110 ∷ 117 ∷ 109 ∷ 98 ∷ 101 ∷ 114 ∷ 32 ∷ []

abbrev pub place_key : List ℕ
place_key = 44 ∷ 32 ∷ 112 ∷ 108 ∷ 97 ∷ 99 ∷ 101 ∷ 32 ∷ []

abbrev pub unknown_line : List ℕ
unknown_line = 115 ∷ 32 ∷ 85 ∷ 78 ∷ 75 ∷ 78 ∷ 79 ∷ 87 ∷ 78 ∷ 10 ∷ []

abbrev pub found_line : List ℕ
found_line = 115 ∷ 32 ∷ 79 ∷ 80 ∷ 84 ∷ 73 ∷ 77 ∷ 85 ∷ 77 ∷ 32 ∷ 70 ∷ 79 ∷ 85 ∷ 78 ∷ 68 ∷ 10 ∷ []

abbrev pub impossible_line : List ℕ
impossible_line = 115 ∷ 32 ∷ 85 ∷ 78 ∷ 83 ∷ 65 ∷ 84 ∷ 73 ∷ 83 ∷ 70 ∷ 73 ∷ 65 ∷ 66 ∷ 76 ∷ 69 ∷ 10 ∷ []

abbrev pub nodes_key : List ℕ
nodes_key = 99 ∷ 32 ∷ 110 ∷ 111 ∷ 100 ∷ 101 ∷ 115 ∷ 32 ∷ []

abbrev pub weight_key : List ℕ
weight_key = 111 ∷ 32 ∷ []

abbrev pub values_key : List ℕ
values_key = 118 ∷ []
