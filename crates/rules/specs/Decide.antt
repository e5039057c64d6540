-- Document 01, "The steps": deciding a literal.
use Rattle.std.specs.Prelude.{ℕ, ◌+◌, ◌-◌, List, [], ◌∷◌, Bool, cond, not, ◌||◌, set, replicate, leb, ltb, ℤ}
use Rattle.std.proofs.lemmas.List.Edits.{sets}
use Rattle.std.specs.Int.Bits.{bit_or}
use Rattle.masks.specs.Masks.{has}
use Rattle.literals.specs.Literal.{size, is_positive, is_literal, bit_of}
use Rattle.rules.specs.declared.Refusal.TheVariants.{BadDesk, TooManySteps, BadLiteral}
use Rattle.rules.specs.Refusals.{Judged, ◌when◌, first_due, unless_refused}
use Rattle.rules.specs.Desk.{variables, standing, decided, truths, most_steps, entry_place, well_formed}

-- a step is entered behind those that stand
unfoldable pub entered : List ℕ → List ℕ → List ℕ
entered d entry = set (sets d (entry_place d (standing d)) entry) 3 (standing d + 1)

-- 12: variable 0, above the count or already decided, or literal outside -64 to 64
unfoldable pub bad_literal : List ℕ → ℤ → Bool
bad_literal d l = not (is_literal l) || (ltb (variables d) (size l) || has (decided d) (size l - 1))

-- Decide: 10, 11, 12.
unfoldable pub decide_why : List ℕ → ℤ → Judged
decide_why d l =
    first_due (BadDesk when not (well_formed d) ∷ TooManySteps when leb most_steps (standing d) ∷ BadLiteral when bad_literal d l ∷ [])

-- "A decision's entry: 0, variable, 1 for true or 0 for false, thirteen zeros."
unfoldable pub decision_entry : ℤ → List ℕ
decision_entry l = 0 ∷ size l ∷ cond (is_positive l) 1 0 ∷ replicate 13 0

-- the literal is decided
unfoldable pub decide_step : List ℕ → ℤ → List ℕ
decide_step d l =
    set (set (entered d (decision_entry l)) 5 (bit_or (decided d) (bit_of l)))
    6 (cond (is_positive l) (bit_or (truths d) (bit_of l)) (truths d))

-- the words after it, refused or not
unfoldable pub decide_desk : List ℕ → ℤ → List ℕ
decide_desk d l = unless_refused (decide_why d l) (decide_step d l) d
