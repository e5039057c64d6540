-- What the functions of `inner` ask of a desk on which new rows are laid, and what a fork lays.
use Rattle.std.specs.Prelude.{ℕ, ◌+◌, ◌-◌, ◌*◌, ◌≤◌, ◌<◌, List, [], ◌∷◌, ◌++◌, ◌≡◌, length, get_or}
use Rattle.literals.specs.declared.Lits.{Lits}
use Rattle.rules.specs.Table.{row_words}
use Rattle.rules.specs.Desk.{head_words}
use Rattle.rules.specs.Rewrite.{given, compensating}
use Rattle.rules.specs.Steps.{remnant_of, fewer_added, concedes, empties}
use Rattle.remnants.specs.Rows.{OnDesk, WellNamed, fork_end}

-- the named rows lie within the lent words, before the row where new ones begin
pub record Behind (d named : List ℕ) (first : ℕ) : Type 0 where
  pub lies : OnDesk d named
  pub before : (i : ℕ) → i < length named → get_or named i 0 < first

-- a rewriting that fits, with room for its new rows
pub record Fitting (d : List ℕ) (kind : ℕ) (named : List ℕ) (first : ℕ) : Type 0 where
  pub behind : Behind d named first
  pub count : WellNamed kind (length named)
  pub full : (kind ≡ 1 → ⊥) → empties (given d kind named) ≡ concedes kind
  pub room : head_words + row_words * (first + (length named - fewer_added kind)) ≤ length d

-- what a fork gives behind the empty clause
unfoldable pub fork_rows : List ℕ → List ℕ → List Lits
fork_rows d named =
    let k = length named - 4 in
    let f = remnant_of d named in
    compensating f k ++ ((fork_end k f).one ∷ (fork_end k f).other ∷ [])
