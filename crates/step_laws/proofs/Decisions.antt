-- Deciding a literal: what each word is after it. A decision touches its entry, the count of steps and the two masks, and no row.
-- The variable was not decided, so neither mask had its bit.
use Prim.Native.Nat.{ℕ, ◌+◌, ◌-◌, ◌≤◌, ◌<◌, ◌^◌}
use mathlib.Core.Path.{◌≡◌, ◌∙◌}
use mathlib.Core.Logic.{◌⊎◌, inl}
use mathlib.Core.Bool.{false, cond}
use mathlib.Core.List.{List}
use native.Mathlib.Nat.{add-zero}
use native.Mathlib.Omega.{arith}
use lib.Bits.{bit_or}
use lib.IntN.{ℤ}
use lib.ListN.{length, get_or, set, length-set}
use lib.Seq.{get_or-set_same, get_or-set_other}
use Rattle.masks.specs.Masks.{has, single}
use Rattle.masks.proofs.Choice.{not_so, clash}
use Rattle.masks.proofs.Sets.{within, single-pow}
use Rattle.literals.specs.Literal.{size, is_positive, bit_of}
use Rattle.literals.proofs.OneBit.{bit-literal, place-below}
use Rattle.rules.specs.Desk.{head_words, capacity, standing, decided, truths, entry_words, row_place, entry_place, row_on}
use Rattle.rules.specs.Decide.{entered, decision_entry, decide_step}
use Rattle.rules.specs.TakeBack.{last_place, last_kind, last_variable}
use Rattle.desk_laws.proofs.Formed.{head-inside}
use Rattle.desk_laws.proofs.Stores.{row_same}
use Rattle.desk_laws.proofs.Verdicts.{Decided}
use Rattle.step_laws.proofs.Entries.{entry-inside, entry_past, row-past-head, length-entered, entered-out, entered-standing, entered-in}

-- ---- the words after a decision

module _ (d : List ℕ) (l : ℤ) where
  pub length-decided : length (decide_step d l) ≡ length d
  unfolding decide_step
  length-decided = simp length-set (length-entered d (decision_entry l))

  pub decided-out : (p : ℕ) → (p ≡ 3 → ⊥) → (p ≡ 5 → ⊥) → (p ≡ 6 → ⊥)
      → (p < entry_place d (standing d)) ⊎ (entry_place d (standing d) + entry_words ≤ p) → get_or (decide_step d l) p 0 ≡ get_or d p 0
  unfolding decide_step decision_entry
  decided-out p a b c h =
      let e : List ℕ = entered d (decision_entry l) in
      let m : ℕ = bit_or (decided d) (bit_of l) in
      get_or-set_other (set e 5 m) 6 p (cond (is_positive l) (bit_or (truths d) (bit_of l)) (truths d)) 0 c
      ∙ get_or-set_other e 5 p m 0 b ∙ entered-out d (decision_entry l) p a h

  pub decided-head : (p : ℕ) → (p < head_words) × (p ≡ 3 → ⊥) × (p ≡ 5 → ⊥) × (p ≡ 6 → ⊥) → get_or (decide_step d l) p 0 ≡ get_or d p 0
  decided-head p o = decided-out p o.1 o.2 o.3 (inl (omega (arith, entry_past d (standing d), row-past-head (capacity d))))

  pub decided-row : (i : ℕ) → i < capacity d → row_on (decide_step d l) i ≡ row_on d i
  unfolding row_place
  decided-row i h =
      row_same d (decide_step d l) i
      (λ p a b. decided-out p (λ q. omega arith) (λ q. omega arith) (λ q. omega arith) (inl (omega (arith, entry_past d (standing d)))))

module _ (d : List ℕ) (l : ℤ) (long : head_words ≤ length d) where
  pub decided-standing : standing (decide_step d l) ≡ standing d + 1
  unfolding decide_step
  decided-standing =
      let e : List ℕ = entered d (decision_entry l) in
      let m : ℕ = bit_or (decided d) (bit_of l) in
      get_or-set_other (set e 5 m) 6 3 (cond (is_positive l) (bit_or (truths d) (bit_of l)) (truths d)) 0 (λ q. omega arith)
      ∙ get_or-set_other e 5 3 m 0 (λ q. omega arith) ∙ entered-standing d (decision_entry l) (omega arith)

  pub decided-decided : decided (decide_step d l) ≡ bit_or (decided d) (bit_of l)
  unfolding decide_step
  decided-decided =
      let e : List ℕ = entered d (decision_entry l) in
      let m : ℕ = bit_or (decided d) (bit_of l) in
      get_or-set_other (set e 5 m) 6 5 (cond (is_positive l) (bit_or (truths d) (bit_of l)) (truths d)) 0 (λ q. omega arith)
      ∙ get_or-set_same e 5 m 0 (rw (length-entered d (decision_entry l)) (omega arith))

  pub decided-truths : truths (decide_step d l) ≡ cond (is_positive l) (bit_or (truths d) (bit_of l)) (truths d)
  unfolding decide_step
  decided-truths =
      let e : List ℕ = entered d (decision_entry l) in
      let m : ℕ = bit_or (decided d) (bit_of l) in
      get_or-set_same (set e 5 m) 6 (cond (is_positive l) (bit_or (truths d) (bit_of l)) (truths d)) 0
      (rw (length-set e 5 m, length-entered d (decision_entry l)) (omega arith))

  pub decided-in : (k : ℕ) → k < entry_words → entry_place d (standing d) + k < length d
      → get_or (decide_step d l) (entry_place d (standing d) + k) 0 ≡ get_or (decision_entry l) k 0
  unfolding decide_step decision_entry
  decided-in k h fits =
      let at : ℕ = entry_place d (standing d) in
      let e : List ℕ = entered d (decision_entry l) in
      let m : ℕ = bit_or (decided d) (bit_of l) in
      let past : head_words ≤ at = omega (arith, entry_past d (standing d), row-past-head (capacity d)) in
      get_or-set_other (set e 5 m) 6 (at + k) (cond (is_positive l) (bit_or (truths d) (bit_of l)) (truths d)) 0 (λ q. omega arith)
      ∙ get_or-set_other e 5 (at + k) m 0 (λ q. omega arith) ∙ entered-in d (decision_entry l) k h fits

-- ---- an accepted decision

module _ (d : List ℕ) (l : ℤ) (ok : Decided d l) where
  pub decided-capacity : capacity (decide_step d l) ≡ capacity d
  decided-capacity = decided-head d l 2 (omega arith)

  pub decided-last : last_place (decide_step d l) ≡ entry_place d (standing d)
  unfolding last_place entry_place
  decided-last =
      let s : standing (decide_step d l) - 1 ≡ standing d = omega (arith, decided-standing d l (head-inside ok.desk)) in
      rw (s, decided-capacity)

  last_word : (k : ℕ) → k < entry_words → get_or (decide_step d l) (last_place (decide_step d l) + k) 0 ≡ get_or (decision_entry l) k 0
  last_word k h = rw decided-last (decided-in d l (head-inside ok.desk) k h (omega (arith, entry-inside ok.desk ok.room)))

  pub decided-kind : last_kind (decide_step d l) ≡ 0
  unfolding last_kind decision_entry
  decided-kind = rw (add-zero (last_place (decide_step d l))) at (last_word 0 (omega arith))

  pub decided-variable : last_variable (decide_step d l) ≡ size l
  unfolding last_variable decision_entry
  decided-variable = last_word 1 (omega arith)

  -- the variable's bit
  abbrev pub v : ℕ
  v = size l - 1

  pub decided-bit : bit_of l ≡ 2 ^ v
  decided-bit = bit-literal l ok.literal

  pub not-yet-true : has (truths d) v ≡ false
  not-yet-true = not_so (λ t. clash (within (truths d) (decided d) ok.desk.nested (size l - 1) t) ok.fresh)

  pub decided-single : single v ≡ 2 ^ v
  decided-single = single-pow (size l - 1) (place-below l ok.literal)
