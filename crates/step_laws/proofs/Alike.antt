-- Two desks of one row capacity whose own words are the same, whatever stands past them. An accepted step reads and writes the desk's own words alone, so
-- it is accepted on both and leaves them alike. So a replay may start from any load, and is compared on the desk's words.
use Prim.Native.Nat.{ℕ, zero, suc, ◌+◌, ◌-◌, ◌≤◌, ◌<◌}
use mathlib.Core.Path.{◌≡◌, sym, ap, ap₂, ◌∙◌, subst, fun_ext}
use mathlib.Core.Logic.{⊎_elim}
use mathlib.Core.Bool.{Bool, true, not, ◌&&◌, ◌||◌}
use mathlib.Core.List.{List, [], ◌∷◌}
use native.Mathlib.Omega.{arith}
use lib.IntN.{ℤ}
use lib.ListN.{length, get_or, set, take, length-set, length-take, get_or-eq_default}
use lib.Seq.{sets, get_or-set_same, get_or-set_other, get_or-take, ext_get_or}
use Rattle.masks.specs.Sums.{every, smallest}
use Rattle.masks.proofs.Choice.{eq-or-ne, lt-or-le}
use Rattle.literals.specs.declared.Lits.{Lits}
use Rattle.rules.specs.declared.Row.{Row}
use Rattle.rules.specs.declared.Part.{Part}
use Rattle.rules.specs.Table.{row_words_of, with_weight, new_row, is_hard}
use Rattle.rules.specs.Desk.{head_words, in_use, capacity, standing, row_place, entry_place, desk_words}
use Rattle.rules.specs.Desk.{row_on, set_row, set_weight, well_formed, decisions, satisfied, remnant, spent}
use Rattle.rules.specs.Decide.{entered, bad_literal, decide_why, decision_entry, decide_step}
use Rattle.rules.specs.Rewrite.{fits, given, well_fitted, rewrite_why, lightest, laid, rewriting_entry, rewrite_step}
use Rattle.rules.specs.Steps.{well_named, remnant_of, stored, reweighed}
use Rattle.desk_laws.proofs.Rows.{row-of-words}
use Rattle.desk_laws.proofs.Verdicts.{Rewritten}

pub record Alike (c : ℕ) (d e : List ℕ) : Type 0 where
  pub long : desk_words c ≤ length d
  pub reach : desk_words c ≤ length e
  pub same : (p : ℕ) → p < desk_words c → get_or e p 0 ≡ get_or d p 0

-- ---- what is read is the same

module _ (c : ℕ) (d e : List ℕ) (a : Alike c d e) where
  pub head-same : (p : ℕ) → p < head_words → get_or e p 0 ≡ get_or d p 0
  unfolding desk_words row_place
  head-same p h = a.same p (omega arith)

  -- a row below the capacity, and the word where one more would begin
  row_same : (i : ℕ) → i ≤ c → row_on e i ≡ row_on d i
  unfolding row_on desk_words row_place
  row_same i h = row-of-words d e (row_place i) (row_place i) (λ k l. a.same (row_place i + k) (omega arith))

  decisions-same : decisions e ≡ decisions d
  unfolding decisions
  decisions-same = ap₂ (λ (x y : ℕ). record { decided = x; truths = y }) (head-same 5 (omega arith)) (head-same 6 (omega arith))

  -- the words of the desk, as a list
  pub same-words : take (desk_words c) e ≡ take (desk_words c) d
  same-words =
      let le : length (take (desk_words c) e) ≡ desk_words c = length-take (desk_words c) e ∙ omega (arith, a.reach) in
      let ld : length (take (desk_words c) d) ≡ desk_words c = length-take (desk_words c) d ∙ omega (arith, a.long) in
      ext_get_or 0 (take (desk_words c) e) (take (desk_words c) d) (le ∙ sym ld)
      (λ p h.
      let l : p < desk_words c = omega (arith, le) in
      get_or-take (desk_words c) e p 0 l ∙ a.same p l ∙ sym (get_or-take (desk_words c) d p 0 l))

-- ---- what is written leaves them alike

pub alike_set : (c : ℕ) (d e : List ℕ) (q v : ℕ) → Alike c d e → Alike c (set d q v) (set e q v)
alike_set c d e q v a =
    record {
      long = rw (length-set d q v) a.long;
      reach = rw (length-set e q v) a.reach;
      same = λ p h.
          ⊎_elim
          (λ (z : p ≡ q).
          let ld : q < length d = omega (arith, a.long) in
          let le : q < length e = omega (arith, a.reach) in
          rw z (get_or-set_same e q v 0 le ∙ sym (get_or-set_same d q v 0 ld)))
          (λ (z : p ≡ q → ⊥). get_or-set_other e q p v 0 z ∙ a.same p h ∙ sym (get_or-set_other d q p v 0 z))
          (eq-or-ne p q);
    }

pub alike-sets : (c : ℕ) (vs d e : List ℕ) (q : ℕ) → Alike c d e → Alike c (sets d q vs) (sets e q vs)
alike-sets c [] d e q a = a
alike-sets c (v ∷ vs) d e q a = alike-sets c vs (set d q v) (set e q v) (suc q) (alike_set c d e q v a)

alike-row : (c : ℕ) (d e : List ℕ) (i : ℕ) (row : Row) → Alike c d e → Alike c (set_row d i row) (set_row e i row)
unfolding set_row
alike-row c d e i row a = alike-sets c (row_words_of row) d e (row_place i) a

alike-laid : (c : ℕ) (ls : List Lits) (d e : List ℕ) (i w : ℕ) → Alike c d e → Alike c (laid d i w ls) (laid e i w ls)
unfolding laid
alike-laid c [] d e i w a = a
alike-laid c (l ∷ ls) d e i w a = alike-laid c ls (set_row d i (new_row l w)) (set_row e i (new_row l w)) (suc i) w (alike-row c d e i (new_row l w) a)

alike-reweighed : (c : ℕ) (new row : ℕ → ℕ) (d e : List ℕ) (n : ℕ) → ((i : ℕ) → row i ≤ c) → Alike c d e
    → Alike c (reweighed new row d n) (reweighed new row e n)
unfolding reweighed set_weight
alike-reweighed c new row d e zero h a = a
alike-reweighed c new row d e (suc n) h a =
    let x = reweighed new row d n in
    let y = reweighed new row e n in
    let ih = alike-reweighed c new row d e n h a in
    let new-row : Row → Row = λ z. with_weight z (new z.weight) in
    subst (λ (z : Row). Alike c (set_row x (row n) (new-row (row_on x (row n)))) (set_row y (row n) (new-row z))) (sym (row_same c x y ih (row n) (h n)))
    (alike-row c x y (row n) (new-row (row_on x (row n))) ih)

alike-entered : (c : ℕ) (d e entry : List ℕ) → Alike c d e → Alike c (entered d entry) (entered e entry)
unfolding entered entry_place
alike-entered c d e entry a =
    rw (head-same c d e a 2 (omega arith), head-same c d e a 3 (omega arith))
    (alike_set c (sets d (entry_place d (standing d)) entry) (sets e (entry_place d (standing d)) entry) 3 (standing d + 1)
    (alike-sets c entry d e (entry_place d (standing d)) a))

-- ---- a decision

pub decide-alike : (c : ℕ) (d e : List ℕ) (l : ℤ) → Alike c d e → Alike c (decide_step d l) (decide_step e l)
unfolding decide_step
decide-alike c d e l a =
    rw (head-same c d e a 5 (omega arith), head-same c d e a 6 (omega arith))
    (alike_set c _ _ 6 _ (alike_set c _ _ 5 _ (alike-entered c d e (decision_entry l) a)))

pub decide-again : (c : ℕ) (d e : List ℕ) (l : ℤ) → Alike c d e → well_formed d ≡ true → well_formed e ≡ true → decide_why e l ≡ decide_why d l
unfolding decide_why bad_literal
decide-again c d e l a wd we =
    rw (we, wd, head-same c d e a 0 (omega arith), head-same c d e a 3 (omega arith), head-same c d e a 5 (omega arith))

-- ---- a rewriting

module _ (c : ℕ) (d e : List ℕ) (kind : ℕ) (named : List ℕ) (a : Alike c d e) (of : capacity d ≡ c) (ok : Rewritten d kind named) where
  named-low : (i : ℕ) → get_or named i 0 ≤ c
  named-low i =
      ⊎_elim
      (λ (l : i < length named). omega (arith, ok.used i l, ok.desk.fitting))
      (λ (g : length named ≤ i). omega (arith, get_or-eq_default named 0 g))
      (lt-or-le i (length named))

  rows_same : ◌≡◌ {A = ℕ → Row} (λ i. row_on e (get_or named i 0)) (λ i. row_on d (get_or named i 0))
  rows_same = fun_ext (λ i. row_same c d e a (get_or named i 0) (named-low i))

  remnants-same : remnant_of e named ≡ remnant_of d named
  unfolding remnant_of
  remnants-same =
      fun_ext (λ i. ap₂ (λ (p : Part) (r : Row). remnant p r.lits) (decisions-same c d e a) (row_same c d e a (get_or named i 0) (named-low i)))

  given-same : given e kind named ≡ given d kind named
  unfolding given
  given-same = rw remnants-same

  lightest-same : lightest e named ≡ lightest d named
  unfolding lightest
  lightest-same = ap (λ (f : ℕ → Row). smallest (length named - 1) (λ i. (f i).weight)) rows_same

  fitted-same : well_fitted e kind named ≡ well_fitted d kind named
  unfolding well_fitted
  fitted-same =
      ap₂ (λ (x y : Bool). x && y)
      (ap₂ (λ (p : Part) (f : ℕ → Row). every (length named) (λ i. not (is_hard (f i) || (spent (f i) || satisfied p (f i).lits))))
      (decisions-same c d e a) rows_same)
      (ap (fits kind (length named)) remnants-same)

  pub rewrite-alike : Alike c (rewrite_step d kind named) (rewrite_step e kind named)
  unfolding rewrite_step
  rewrite-alike =
      let w = lightest d named in
      let new = stored (given d kind named) in
      rw (lightest-same, given-same, head-same c d e a 1 (omega arith), head-same c d e a 4 (omega arith))
      (alike-entered c _ _ (rewriting_entry kind w named (in_use d))
      (alike_set c _ _ 4 _ (alike_set c _ _ 1 _
      (alike-laid c new _ _ (in_use d) w (alike-reweighed c (λ x. x - w) (λ i. get_or named i 0) d e (length named) named-low a)))))

  pub rewrite-again : well_formed d ≡ true → well_formed e ≡ true → rewrite_why e kind named ≡ rewrite_why d kind named
  unfolding rewrite_why well_named
  rewrite-again wd we =
      rw (we, wd, fitted-same, given-same, head-same c d e a 1 (omega arith), head-same c d e a 2 (omega arith), head-same c d e a 3 (omega arith))
