-- The keys of an answer, and the lines of it that are known, as bytes: what the code spells.
use Rattle.std.specs.Prelude.{ℕ, List, [], ◌∷◌}

abbrev pub refused_line : List ℕ
refused_line = 115 ∷ 116 ∷ 97 ∷ 116 ∷ 117 ∷ 115 ∷ 61 ∷ 114 ∷ 101 ∷ 102 ∷ 117 ∷ 115 ∷ 101 ∷ 100 ∷ 10 ∷ []

abbrev pub done_line : List ℕ
done_line = 115 ∷ 116 ∷ 97 ∷ 116 ∷ 117 ∷ 115 ∷ 61 ∷ 100 ∷ 111 ∷ 110 ∷ 101 ∷ 10 ∷ []

abbrev pub stopped_line : List ℕ
stopped_line = 115 ∷ 116 ∷ 97 ∷ 116 ∷ 117 ∷ 115 ∷ 61 ∷ 115 ∷ 116 ∷ 111 ∷ 112 ∷ 112 ∷ 101 ∷ 100 ∷ 10 ∷ []

abbrev pub impossible_line : List ℕ
impossible_line = 115 ∷ 116 ∷ 97 ∷ 116 ∷ 117 ∷ 115 ∷ 61 ∷ 105 ∷ 109 ∷ 112 ∷ 111 ∷ 115 ∷ 115 ∷ 105 ∷ 98 ∷ 108 ∷ 101 ∷ 10 ∷ []

abbrev pub no_weight_line : List ℕ
no_weight_line = 119 ∷ 101 ∷ 105 ∷ 103 ∷ 104 ∷ 116 ∷ 61 ∷ 110 ∷ 111 ∷ 110 ∷ 101 ∷ 10 ∷ []

abbrev pub number_key : List ℕ
number_key = 110 ∷ 117 ∷ 109 ∷ 98 ∷ 101 ∷ 114 ∷ 61 ∷ []

abbrev pub place_key : List ℕ
place_key = 112 ∷ 108 ∷ 97 ∷ 99 ∷ 101 ∷ 61 ∷ []

abbrev pub nodes_key : List ℕ
nodes_key = 110 ∷ 111 ∷ 100 ∷ 101 ∷ 115 ∷ 61 ∷ []

abbrev pub conceded_key : List ℕ
conceded_key = 99 ∷ 111 ∷ 110 ∷ 99 ∷ 101 ∷ 100 ∷ 101 ∷ 100 ∷ 61 ∷ []

abbrev pub lost_key : List ℕ
lost_key = 108 ∷ 111 ∷ 115 ∷ 116 ∷ 61 ∷ []

abbrev pub foreseen_key : List ℕ
foreseen_key = 102 ∷ 111 ∷ 114 ∷ 101 ∷ 115 ∷ 101 ∷ 101 ∷ 110 ∷ 61 ∷ []
