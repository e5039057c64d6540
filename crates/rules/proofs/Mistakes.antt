-- An error that an old cleaner would make, as a definition of what is wrong, and what it comes to on P4.
-- The other errors that document 01 lists are tried as edits of the definitions, in must-fail/.
use Prim.Native.Nat.{ℕ, zero, suc}
use mathlib.Core.Path.{◌≡◌, refl}
use mathlib.Core.List.{List, [], ◌∷◌, ◌++◌}
use mathlib.Core.Bool.{cond, not, ◌&&◌}
use lib.Bits.{bit_or}
use Rattle.masks.specs.Masks.{bit, count, without, none, single}
use Rattle.masks.specs.Sums.{sum}
use Rattle.literals.specs.declared.Lits.{Lits}
use Rattle.literals.specs.Literal.{size, is_positive, bit_of, lits_of}
use Rattle.literals.specs.Lits.{no_lits, together, variables_of, is_empty, is_one}
use Rattle.rules.specs.declared.Part.{Part}
use Rattle.rules.specs.Table.{row_in, row_count, holds, given_up, row_words_of}
use Rattle.rules.specs.Desk.{in_use, row_place, desk_words, row_on, load_step, decisions, satisfied, remnant, desk_weighs}
use Rattle.rules.specs.Bound.{weight_where, lost_beyond, lost}
use Rattle.rules.specs.Examples.{x, not-x, row, desk}

-- the remnant of the first unsatisfied row, of those below n, that holds one literal
pub first_unit : List ℕ → Part → ℕ → Lits
first_unit d p zero = no_lits
first_unit d p (suc i) =
    let before = first_unit d p i in
    let l = (row_on d i).lits in
    cond (is_empty before && (not (satisfied p l) && is_one (remnant p l))) (remnant p l) before

-- unit propagation as in plain satisfiability: each unit is taken to be true, and what is then lost is claimed of every reading
pub propagated : ℕ → List ℕ → Part → ℕ
propagated zero d p = lost d p
propagated (suc k) d p =
    let l = first_unit d p (in_use d) in
    propagated k d (record { decided = bit_or p.decided (variables_of l); truths = bit_or p.truths l.positive })

pub p4 : List ℕ
p4 =
    desk 3
    (row (x 1 ∷ []) 1
    ++ (row (not-x 1 ∷ x 2 ∷ []) 1
    ++ (row (not-x 1 ∷ not-x 2 ∷ []) 1 ++ (row (not-x 1 ∷ x 3 ∷ []) 1 ++ row (not-x 1 ∷ not-x 3 ∷ []) 1))))
    5

-- "On P4 it claims 2 empty clauses"
pub claims-two : propagated 3 p4 (decisions p4) ≡ 2
unfolding propagated first_unit p4 lost lost_beyond weight_where decisions satisfied remnant row_on row_in row_place row_count load_step desk_words row_words_of
    no_lits together variables_of is_empty is_one lits_of bit_of size is_positive sum count bit without none single
claims-two = refl

-- "readings with x1 false break one": here x2 and x3 are true
pub breaks-one : desk_weighs p4 6 ≡ 1
unfolding p4 desk_weighs given_up holds row_on row_in row_place row_count load_step desk_words row_words_of no_lits together lits_of bit_of size is_positive sum bit
    without none single
breaks-one = refl
