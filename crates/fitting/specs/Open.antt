-- Of a named row, what 14 asks before its remnant is looked at.
use Rattle.std.specs.Prelude.{ℕ, List, Bool, not, ◌||◌, length, get_or}
use Rattle.masks.specs.Sums.{every}
use Rattle.rules.specs.Table.{is_hard}
use Rattle.rules.specs.Desk.{row_on, decisions, satisfied, spent}

-- the i-th named row is neither hard nor spent nor satisfied
abbrev pub is_open : List ℕ → List ℕ → ℕ → Bool
is_open d named i =
    let row = row_on d (get_or named i 0) in
    not (is_hard row || (spent row || satisfied (decisions d) row.lits))

abbrev pub all_open : List ℕ → List ℕ → Bool
all_open d named = every (length named) (is_open d named)
