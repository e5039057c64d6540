-- New rows, one behind the other: a row more, and the remnants of rows before them, which they do not touch.
use Prim.Native.Nat.{ℕ, suc, ◌+◌, ◌-◌, ◌≤◌, ◌<◌}
use mathlib.Core.Path.{◌≡◌, refl, sym, ap, ◌∙◌}
use mathlib.Core.Logic.{⊎_elim, inl}
use mathlib.Core.List.{List, [], ◌∷◌, ◌++◌}
use mathlib.Core.Bool.{true, false, cond}
use native.Mathlib.Omega.{arith}
use native.Mathlib.Nat.{add-zero}
use native.Mathlib.Numerals.{add-one}
use lib.ListN.{length, get_or}
use Rattle.masks.proofs.Choice.{cases}
use Rattle.literals.specs.declared.Lits.{Lits}
use Rattle.literals.specs.Lits.{no_lits, is_empty, negated_lits, together, less}
use Rattle.rules.specs.declared.Row.{Row}
use Rattle.rules.specs.Table.{new_row}
use Rattle.rules.specs.Desk.{row_place, row_on, set_row, decisions}
use Rattle.rules.specs.Rewrite.{lit, compensating, gives, given, laid}
use Rattle.rules.specs.Steps.{remnant_of, stored, empties, reweighed}
use Rattle.desk_laws.proofs.Stores.{laid_out_lem, laid-before, reweighed-lits, reweighed-head}
use Rattle.step_laws.proofs.Linked.{compensating-count}
use Rattle.remnants.proofs.Chains.{compensating-more}
use Rattle.remnants.specs.declared.Ends.{Ends}
use Rattle.remnants.specs.Rows.{OnDesk, fork_end}
use Rattle.laying.specs.Room.{Behind, fork_rows}

pub laid_none : (d : List ℕ) (i w : ℕ) → laid d i w [] ≡ d
unfolding laid
laid_none d i w = refl

pub laid_one : (d : List ℕ) (i w : ℕ) (l : Lits) → laid d i w (l ∷ []) ≡ set_row d i (new_row l w)
unfolding laid
laid_one d i w l = refl

pub laid-pair : (d : List ℕ) (i w : ℕ) (l m : Lits) → laid d i w (l ∷ m ∷ []) ≡ set_row (set_row d i (new_row l w)) (i + 1) (new_row m w)
unfolding laid
laid-pair d i w l m = rw (add-one i)

-- rows behind rows
pub laid-append : (d : List ℕ) (i w : ℕ) (ls ms : List Lits) → laid d i w (ls ++ ms) ≡ laid (laid d i w ls) (i + length ls) w ms
unfolding laid
laid-append d i w [] ms = rw (add-zero i)
laid-append d i w (l ∷ ls) ms =
    let e : suc i + length ls ≡ i + suc (length ls) = omega arith in
    laid-append (set_row d i (new_row l w)) (suc i) w ls ms ∙ rw e

pub laid_more : (d : List ℕ) (i w : ℕ) (ls : List Lits) (l : Lits) → laid d i w (ls ++ (l ∷ [])) ≡ set_row (laid d i w ls) (i + length ls) (new_row l w)
laid_more d i w ls l = laid-append d i w ls (l ∷ []) ∙ laid_one (laid d i w ls) (i + length ls) w l

-- none of them empty, all are stored
full-head : (l : Lits) (n : ℕ) → cond (is_empty l) 1 0 + n ≡ 0 → (is_empty l ≡ false) × (n ≡ 0)
full-head l n e = ⊎_elim (λ t. absurd (none t)) (λ f. (f, omega arith)) (cases (is_empty l))
  where
    none : is_empty l ≡ true → ⊥
    none t = let h : cond {A = ℕ} (is_empty l) 1 0 ≡ 1 = rw t in omega arith

pub stored-all : (ls : List Lits) → empties ls ≡ 0 → stored ls ≡ ls
unfolding stored empties
stored-all [] e = refl
stored-all (l ∷ ls) e =
    let h = full-head l (empties ls) e in
    rw (h.0, stored-all ls h.1)

-- behind an empty clause, all are stored
pub stored-behind : (ls : List Lits) → empties (no_lits ∷ ls) ≡ 1 → stored (no_lits ∷ ls) ≡ ls
unfolding stored empties no_lits is_empty
stored-behind ls e = stored-all ls (omega arith)

-- ---- remnants of rows that new rows and new weights leave as they are

same-decisions : (d e : List ℕ) → get_or e 5 0 ≡ get_or d 5 0 → get_or e 6 0 ≡ get_or d 6 0 → decisions e ≡ decisions d
unfolding decisions
same-decisions d e a b = λ t. record { decided = a t; truths = b t }

same-remnant : (d e named : List ℕ) (j : ℕ) → decisions e ≡ decisions d → (row_on e (get_or named j 0)).lits ≡ (row_on d (get_or named j 0)).lits
    → remnant_of e named j ≡ remnant_of d named j
unfolding remnant_of
same-remnant d e named j p r = rw (p, r)

pub remnant-laid : (d named : List ℕ) (first w : ℕ) (ls : List Lits) (j : ℕ) → get_or named j 0 < first
    → remnant_of (laid d first w ls) named j ≡ remnant_of d named j
unfolding row_place
remnant-laid d named first w ls j h =
    same-remnant d (laid d first w ls) named j
    (same-decisions d (laid d first w ls) (laid_out_lem d first w ls 5 (inl (omega arith))) (laid_out_lem d first w ls 6 (inl (omega arith))))
    (ap (λ (r : Row). r.lits) (laid-before d first w ls (get_or named j 0) h))

pub remnant-reweighed : (new row : ℕ → ℕ) (d named : List ℕ) (n : ℕ) → ((i : ℕ) → i < n → row_place (suc (row i)) ≤ length d)
    → remnant_of (reweighed new row d n) named ≡ remnant_of d named
remnant-reweighed new row d named n inside = λ t j. each j t
  where
    each : (j : ℕ) → remnant_of (reweighed new row d n) named j ≡ remnant_of d named j
    each j =
        same-remnant d (reweighed new row d n) named j
        (same-decisions d (reweighed new row d n) (reweighed-head new row d n 5 (omega arith)) (reweighed-head new row d n 6 (omega arith)))
        (reweighed-lits new row d n inside (get_or named j 0))

-- ---- what lies within the words still does

pub lies-still : (d e named : List ℕ) → length e ≡ length d → OnDesk d named → OnDesk e named
lies-still d e named n o = record { head = omega (arith, o.head); inside = λ i l. omega (arith, o.inside i l) }

pub behind-still : (d e named : List ℕ) (first : ℕ) → length e ≡ length d → Behind d named first → Behind e named first
behind-still d e named first n b = record { lies = lies-still d e named n b.lies; before = b.before }

-- ---- what a shift, a turn along a chain and a fork lay, from what their functions find

module _ (d named : List ℕ) (first w : ℕ) where
  abbrev f : ℕ → Lits
  f = remnant_of d named

  pub shift-laid : {e : List ℕ} {one second no two turned row : Lits}
      → one ≡ f 0 → second ≡ f 1 → no ≡ negated_lits one → two ≡ less second no → turned ≡ negated_lits two → row ≡ together one turned
      → e ≡ laid d first w (row ∷ two ∷ []) → e ≡ laid d first w (given d 2 named)
  unfolding given gives lit
  shift-laid o s n l t r here = here ∙ rw (r, t, l, n, s, o)

  -- with the rows of i links laid, the next named row is as it was
  pub remnant-yet : (i : ℕ) {e : List ℕ} {r : Lits} → get_or named (i + 1) 0 < first → e ≡ laid d first w (compensating f i) → r ≡ remnant_of e named (i + 1)
      → r ≡ f (i + 1)
  remnant-yet i h laying here =
      here ∙ ap (λ (x : List ℕ). remnant_of x named (i + 1)) laying ∙ remnant-laid d named first w (compensating f i) (i + 1) h

  pub turn-laid : (i : ℕ) {old e : List ℕ} {row : Row} → old ≡ laid d first w (compensating f i)
      → row ≡ new_row (together (lit f i) (negated_lits (lit f (i + 1)))) w → e ≡ set_row old (first + i) row
      → e ≡ laid d first w (compensating f (i + 1))
  turn-laid i laying r here =
      let count : first + i ≡ first + length (compensating f i) = ap (λ (k : ℕ). first + k) (sym (compensating-count 0 (omega arith) f i)) in
      here ∙ rw (laying, r, count, compensating-more f i) (sym (laid_more d first w (compensating f i) _))

  pub fork-laid : {e back : List ℕ} {end : Ends}
      → let k = length named - 4 in
      back ≡ laid d first w (compensating f k) → end ≡ fork_end k f → e ≡ laid back (first + k) w (end.one ∷ end.other ∷ [])
      → e ≡ laid d first w (fork_rows d named)
  unfolding fork_rows
  fork-laid b n here =
      let k : ℕ = length named - 4 in
      let last : List Lits = (fork_end k f).one ∷ (fork_end k f).other ∷ [] in
      here
      ∙ rw (b, n)
      (ap (λ (j : ℕ). laid (laid d first w (compensating f k)) (first + j) w last) (sym (compensating-count 0 (omega arith) f k))
      ∙ sym (laid-append d first w (compensating f k) last))
