-- Document 01, "The steps": what a rewriting names, by its kind, and what becomes of the rows it names and gives.
use Rattle.std.specs.Prelude.{ℕ, zero, suc, ◌+◌, List, [], ◌∷◌, Bool, cond, not, ◌&&◌, length, get_or, eqb, leb, ltb}
use Rattle.masks.specs.Sums.{every}
use Rattle.literals.specs.declared.Lits.{Lits}
use Rattle.literals.specs.Lits.{is_empty}
use Rattle.rules.specs.Desk.{in_use, row_on, set_weight, decisions, remnant}

-- the last kind of step
abbrev pub most_kind : ℕ
most_kind = 4

-- "k is 0 to 8"
abbrev pub longest : ℕ
longest = 8

-- "up to 12 row numbers"
abbrev pub most_named : ℕ
most_named = 12

-- The table by step kind, 0 to 4: fewest and most rows named, rows named less rows added, and how often it concedes w.
-- A merge whose rest is empty adds no row and concedes w; that is its own case.
unfoldable pub fewest : ℕ → ℕ
fewest kind = get_or (0 ∷ 2 ∷ 2 ∷ 2 ∷ 4 ∷ []) kind 0

unfoldable pub most : ℕ → ℕ
most kind = get_or (0 ∷ 2 ∷ 2 ∷ (2 + longest) ∷ (4 + longest) ∷ []) kind 0

unfoldable pub fewer_added : ℕ → ℕ
fewer_added kind = get_or (0 ∷ 1 ∷ 0 ∷ 2 ∷ 2 ∷ []) kind 0

unfoldable pub concedes : ℕ → ℕ
concedes kind = get_or (0 ∷ 0 ∷ 0 ∷ 1 ∷ 1 ∷ []) kind 0

unfoldable pub count_fits : ℕ → ℕ → Bool
count_fits kind n = leb (fewest kind) n && leb n (most kind)

-- no two of the first n are the same
unfoldable pub distinct : ℕ → (ℕ → ℕ) → Bool
distinct n row = every n (λ j. every j (λ i. not (eqb (row i) (row j))))

-- 13: a rewriting's kind not 1 to 4, wrong count of rows, row not in use, or a row named twice
unfoldable pub well_named : List ℕ → ℕ → List ℕ → Bool
well_named d kind named =
    leb 1 kind && (leb kind most_kind && (count_fits kind (length named)
    && (every (length named) (λ i. ltb (get_or named i 0) (in_use d)) && distinct (length named) (λ i. get_or named i 0))))

-- the remnant of the i-th named row
unfoldable pub remnant_of : List ℕ → List ℕ → ℕ → Lits
remnant_of d named i = remnant (decisions d) (row_on d (get_or named i 0)).lits

-- "an empty one is not stored, but adds w to conceded"
unfoldable pub stored : List Lits → List Lits
stored [] = []
stored (l ∷ ls) = cond (is_empty l) (stored ls) (l ∷ stored ls)

unfoldable pub empties : List Lits → ℕ
empties [] = 0
empties (l ∷ ls) = cond (is_empty l) 1 0 + empties ls

-- the first n named rows get a new weight, made of the old one
unfoldable pub reweighed : (ℕ → ℕ) → (ℕ → ℕ) → List ℕ → ℕ → List ℕ
reweighed new row d zero = d
reweighed new row d (suc n) =
    let e = reweighed new row d n in
    set_weight e (row n) (new (row_on e (row n)).weight)
