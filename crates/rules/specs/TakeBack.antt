-- Document 01, "The steps": "Taking back undoes the last standing step", and "A bad last entry".
use Rattle.std.specs.Prelude.{ℕ, ◌+◌, ◌-◌, ◌*◌, List, [], ◌∷◌, Bool, cond, not, ◌&&◌, ◌||◌, get_or, set, eqb, ltb}
use Rattle.masks.specs.Masks.{has, without, single}
use Rattle.masks.specs.Sums.{every}
use Rattle.masks.specs.Words.{zeroed}
use Rattle.rules.specs.declared.Refusal.TheVariants.{BadDesk, NothingStands}
use Rattle.rules.specs.Refusals.{Judged, ◌when◌, first_due, unless_refused}
use Rattle.rules.specs.Table.{row_words, is_hard}
use Rattle.rules.specs.Desk.{in_use, standing, conceded, decided, truths, loaded, entry_words, row_place, entry_place, row_on, well_formed, weight_fits}
use Rattle.rules.specs.Steps.{most_kind, fewer_added, concedes, count_fits, distinct, reweighed, most_named}

-- The last entry and its words.
unfoldable pub last_place : List ℕ → ℕ
last_place d = entry_place d (standing d - 1)

unfoldable pub last_kind : List ℕ → ℕ
last_kind d = get_or d (last_place d) 0

-- of a decision
unfoldable pub last_variable : List ℕ → ℕ
last_variable d = get_or d (last_place d + 1) 0

-- of a rewriting
unfoldable pub last_weight : List ℕ → ℕ
last_weight d = get_or d (last_place d + 1) 0

unfoldable pub last_count : List ℕ → ℕ
last_count d = get_or d (last_place d + 2) 0

unfoldable pub last_named : List ℕ → ℕ → ℕ
last_named d i = get_or d (last_place d + 3 + i) 0

unfoldable pub last_first : List ℕ → ℕ
last_first d = get_or d (last_place d + 3 + most_named) 0

-- a merge that added no row, "0 meaning that it conceded w"
unfoldable pub merged_empty : List ℕ → Bool
merged_empty d = eqb (last_kind d) 1 && eqb (in_use d) (last_first d)

-- what the step added to conceded
unfoldable pub last_conceded : List ℕ → ℕ
last_conceded d = last_weight d * cond (merged_empty d) 1 (concedes (last_kind d))

-- "The entry is zeroed"; it stands no more
unfoldable pub withdrawn : List ℕ → List ℕ
withdrawn d = set (zeroed d (last_place d) entry_words) 3 (standing d - 1)

-- "a decision is cleared"
unfoldable pub undo_decision : List ℕ → List ℕ
undo_decision d =
    let v = single (last_variable d - 1) in
    withdrawn (set (set d 5 (without (decided d) v)) 6 (without (truths d) v))

-- "or the new rows are zeroed, conceded loses what the step added and each named row regains w"
unfoldable pub undo_rewriting : List ℕ → List ℕ
undo_rewriting d =
    let rows = reweighed (λ x. x + last_weight d) (last_named d) d (last_count d) in
    let freed = zeroed rows (row_place (last_first d)) (row_words * (in_use d - last_first d)) in
    withdrawn (set (set freed 1 (last_first d)) 4 (conceded d - last_conceded d))

unfoldable pub take_back_step : List ℕ → List ℕ
take_back_step d = cond (eqb (last_kind d) 0) (undo_decision d) (undo_rewriting d)

-- a decision on a variable that isn't decided
unfoldable pub bad_decision : List ℕ → Bool
bad_decision d = eqb (last_variable d) 0 || not (has (decided d) (last_variable d - 1))

-- a count wrong for the kind; a named row repeated or not below the first new row; first new row below rows loaded, or rows in
-- use above it not what the kind adds; conceded less than the step added; (d) broken afterwards; "or a hard row named in the last entry"
unfoldable pub bad_rewriting : List ℕ → Bool
bad_rewriting d =
    not (count_fits (last_kind d) (last_count d))
    || (not (distinct (last_count d) (last_named d) && every (last_count d) (λ i. ltb (last_named d i) (last_first d)))
    || (ltb (last_first d) (loaded d)
    || (not (eqb (in_use d + fewer_added (last_kind d)) (last_first d + last_count d) || merged_empty d)
    || (ltb (conceded d) (last_conceded d)
    || (not (every (last_count d) (λ i. not (is_hard (row_on d (last_named d i)))))
    || not (weight_fits (undo_rewriting d)))))))

-- "kind above 4", and what is bad in a decision or in a rewriting
unfoldable pub bad_last : List ℕ → Bool
bad_last d = ltb most_kind (last_kind d) || cond (eqb (last_kind d) 0) (bad_decision d) (bad_rewriting d)

-- Taking back: 10 for the desk, 16, 10 for the entry.
unfoldable pub take_back_why : List ℕ → Judged
take_back_why d =
    first_due (BadDesk when not (well_formed d) ∷ NothingStands when eqb (standing d) 0 ∷ BadDesk when bad_last d ∷ [])

-- the words after it, refused or not
unfoldable pub take_back_desk : List ℕ → List ℕ
take_back_desk d = unless_refused (take_back_why d) (take_back_step d) d
