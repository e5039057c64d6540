-- The line of a reading: its key and what stands for none, as bytes, and the most bytes that it can have; outcomes whose reading such a line can hold.
use Rattle.std.specs.Prelude.{ℕ, ◌+◌, ◌≤◌, ◌≡◌, List, [], ◌∷◌, length, None, Result, Ok, Err}
use Rattle.literals.specs.Literal.{most_variables}
use Rattle.rules.specs.declared.Status.{Status}
use Rattle.rules.specs.declared.Outcome.{Outcome}
use Rattle.text_laws.specs.Lengths.{most_lits_end}
use Rattle.rules.specs.declared.Refusal.{Refusal}

abbrev pub reading_key : List ℕ
reading_key = 114 ∷ 101 ∷ 97 ∷ 100 ∷ 105 ∷ 110 ∷ 103 ∷ 61 ∷ []

abbrev pub no_reading_line : List ℕ
no_reading_line = 114 ∷ 101 ∷ 97 ∷ 100 ∷ 105 ∷ 110 ∷ 103 ∷ 61 ∷ 110 ∷ 111 ∷ 110 ∷ 101 ∷ 10 ∷ []

abbrev pub most_reading_line : ℕ
most_reading_line = length reading_key + most_lits_end most_variables

-- a search is of no more variables than a reading can name, and has no reading where it says that none is possible
abbrev pub Counted : Result Outcome Refusal → Type 0
Counted (Ok o) = (o.variables ≤ most_variables) × (o.found.status ≡ Status.Impossible → o.found.best ≡ None)
Counted (Err r) = Unit
