-- Document 01, "The steps": merge, shift, chain and fork, found by recursion: what fits, and what is given. The table in document 01's words stands in
-- crates/step_laws/specs/StepTable.antt; that the two say the same is promised, so that what finds it here need not be believed.
-- A rewriting names rows; f gives their remnants, f 0 the first. A literal stands here as the set of literals that holds it alone.
use Rattle.std.specs.Prelude.{ℕ, zero, suc, ◌+◌, ◌-◌, ◌*◌, List, [], ◌∷◌, ◌++◌, Bool, cond, not, ◌&&◌, ◌||◌, length, get_or, set, replicate, eqb, leb, ltb}
use Rattle.std.specs.Int.Bits.{bit_and, bit_or}
use Rattle.masks.specs.Masks.{none, count, without}
use Rattle.masks.specs.Sums.{every, smallest}
use Rattle.literals.specs.declared.Lits.{Lits}
use Rattle.literals.specs.Lits.{no_lits, negated_lits, together, less, variables_of, same_lits, is_one}
use Rattle.rules.specs.declared.Refusal.TheVariants.{BadDesk, TooManySteps, BadNaming, BadFit, DeskFull}
use Rattle.rules.specs.Refusals.{Judged, ◌when◌, first_due, unless_refused}
use Rattle.rules.specs.Table.{new_row, is_hard}
use Rattle.rules.specs.Desk.{in_use, capacity, standing, conceded, most_steps, row_on, set_row, well_formed, decisions, satisfied, spent}
use Rattle.rules.specs.Decide.{entered}
use Rattle.rules.specs.Steps.{most_named, well_named, remnant_of, stored, empties, reweighed}

-- what belongs to kind 1, 2, 3 or 4
abbrev pub by_kind : {A : Type 0} → ℕ → A → A → A → A → A
by_kind kind merge shift chain fork = cond (eqb kind 1) merge (cond (eqb kind 2) shift (cond (eqb kind 3) chain fork))

-- "A remnant holds just the literals shown, each on a variable of its own": two literals
unfoldable pub shows : Lits → Lits → Lits → Bool
shows r l m = is_one l && (is_one m && (none (bit_and (variables_of l) (variables_of m)) && same_lits r (together l m)))

-- The literal l(i+1), counted from l1 = lit f 0: "row i of the k rows fixes l(i+1)", being what it holds beside not li.
unfoldable pub lit : (ℕ → Lits) → ℕ → Lits
lit f zero = f 0
lit f (suc i) = less (f (suc i)) (negated_lits (lit f i))

-- l1; k rows (not li, l(i+1))
unfoldable pub links : (ℕ → Lits) → ℕ → Bool
links f zero = is_one (f 0)
links f (suc k) = links f k && shows (f (suc k)) (negated_lits (lit f k)) (lit f (suc k))

-- the k rows (li, not l(i+1))
unfoldable pub compensating : (ℕ → Lits) → ℕ → List Lits
compensating f zero = []
compensating f (suc k) = compensating f k ++ (together (lit f k) (negated_lits (lit f (suc k))) ∷ [])

-- merge: the variables on which two remnants are of opposite signs, and the two without them
unfoldable pub clash : Lits → Lits → ℕ
clash l m = bit_or (bit_and l.positive m.negative) (bit_and l.negative m.positive)

unfoldable pub apart_from : ℕ → Lits → Lits
apart_from mask l = record { positive = without l.positive mask; negative = without l.negative mask }

-- fork: b and c, in the rows (not a, b) and (not a, c) behind the k rows
unfoldable pub forked : (ℕ → Lits) → ℕ → ℕ → Lits
forked f k i = less (f (k + i)) (negated_lits (lit f k))

-- two, alike but for one variable, of opposite signs
unfoldable pub merges : (ℕ → Lits) → Bool
merges f =
    let v = clash (f 0) (f 1) in
    eqb (count v) 1 && same_lits (apart_from v (f 0)) (apart_from v (f 1))

-- l1; (not l1, l2)
unfoldable pub shifts : (ℕ → Lits) → Bool
shifts f = links f 1

-- l1; k rows (not li, l(i+1)); not l(k+1)
unfoldable pub chains : (ℕ → Lits) → ℕ → Bool
chains f k = links f k && same_lits (f (k + 1)) (negated_lits (lit f k))

-- l1; k rows (not li, l(i+1)); (not a, b); (not a, c); (not b, not c), a = l(k+1)
unfoldable pub forks : (ℕ → Lits) → ℕ → Bool
forks f k =
    links f k
    && (shows (f (k + 1)) (negated_lits (lit f k)) (forked f k 1)
    && (shows (f (k + 2)) (negated_lits (lit f k)) (forked f k 2)
    && shows (f (k + 3)) (negated_lits (forked f k 1)) (negated_lits (forked f k 2))))

-- the remnants of n named rows fit the kind
unfoldable pub fits : ℕ → ℕ → (ℕ → Lits) → Bool
fits kind n f = by_kind kind (merges f) (shifts f) (chains f (n - 2)) (forks f (n - 4))

-- What a rewriting gives, in this order; no_lits is "empty".
unfoldable pub gives : ℕ → ℕ → (ℕ → Lits) → List Lits
gives kind n f =
    by_kind kind
    (apart_from (clash (f 0) (f 1)) (f 0) ∷ [])
    (together (lit f 0) (negated_lits (lit f 1)) ∷ lit f 1 ∷ [])
    (no_lits ∷ compensating f (n - 2))
    (let a = lit f (n - 4) in
    let bc = together (forked f (n - 4) 1) (forked f (n - 4) 2) in
    no_lits ∷ (compensating f (n - 4) ++ (together a (negated_lits bc) ∷ together (negated_lits a) bc ∷ [])))

unfoldable pub given : List ℕ → ℕ → List ℕ → List Lits
given d kind named = gives kind (length named) (remnant_of d named)

-- 14: a named row spent or satisfied, or the remnants don't fit; "Rewritings refuse hard rows with 14"
unfoldable pub well_fitted : List ℕ → ℕ → List ℕ → Bool
well_fitted d kind named =
    every (length named) (λ i. let row = row_on d (get_or named i 0) in not (is_hard row || (spent row || satisfied (decisions d) row.lits)))
    && fits kind (length named) (remnant_of d named)

-- Rewriting: 10, 11, 13, 14, 15.
unfoldable pub rewrite_why : List ℕ → ℕ → List ℕ → Judged
rewrite_why d kind named =
    first_due (BadDesk when not (well_formed d) ∷ TooManySteps when leb most_steps (standing d) ∷ BadNaming when not (well_named d kind named)
    ∷ BadFit when not (well_fitted d kind named) ∷ DeskFull when ltb (capacity d) (in_use d + length (stored (given d kind named))) ∷ [])

-- "w is the smallest weight among the named rows"
unfoldable pub lightest : List ℕ → List ℕ → ℕ
lightest d named = smallest (length named - 1) (λ i. (row_on d (get_or named i 0)).weight)

-- rows of weight w from row i on
unfoldable pub laid : List ℕ → ℕ → ℕ → List Lits → List ℕ
laid d i w [] = d
laid d i w (l ∷ ls) = laid (set_row d i (new_row l w)) (suc i) w ls

-- "A rewriting's entry: kind, weight w, count of rows named, up to 12 row numbers, 0 in those not needed, and last the first new row"
unfoldable pub rewriting_entry : ℕ → ℕ → List ℕ → ℕ → List ℕ
rewriting_entry kind w named first = kind ∷ w ∷ length named ∷ (named ++ (replicate (most_named - length named) 0 ++ (first ∷ [])))

-- "Each named row loses w; new rows have weight w" and "take the next row numbers"
unfoldable pub rewrite_step : List ℕ → ℕ → List ℕ → List ℕ
rewrite_step d kind named =
    let w = lightest d named in
    let new = given d kind named in
    let rows = laid (reweighed (λ x. x - w) (λ i. get_or named i 0) d (length named)) (in_use d) w (stored new) in
    entered (set (set rows 1 (in_use d + length (stored new))) 4 (conceded d + w * empties new))
    (rewriting_entry kind w named (in_use d))

-- the words after it, refused or not
unfoldable pub rewrite_desk : List ℕ → ℕ → List ℕ → List ℕ
rewrite_desk d kind named = unless_refused (rewrite_why d kind named) (rewrite_step d kind named) d
