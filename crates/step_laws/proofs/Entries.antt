-- A step's entry goes behind those that stand, and taking back zeroes the last one.
-- Both touch the entry's words and the count of standing steps; every other word is read as before.
use Prim.Native.Nat.{ℕ, ◌+◌, ◌-◌, ◌≤◌, ◌<◌}
use mathlib.Core.Path.{◌≡◌, sym, ◌∙◌}
use mathlib.Core.Logic.{◌⊎◌, inl, inr, ⊎_elim}
use mathlib.Core.List.{List}
use native.Mathlib.Omega.{arith}
use lib.ListN.{length, get_or, length-set}
use lib.Seq.{sets, length-sets, get_or-set_same, get_or-set_other, ext_get_or}
use Rattle.masks.proofs.Choice.{lt-or-le, eq-or-ne}
use Rattle.masks.specs.Words.{zeroed}
use Rattle.masks.proofs.Words.{sets-out, sets-in, zeroed-out, zeroed-in, length-zeroed}
use Rattle.rules.specs.Desk.{head_words, capacity, standing, entry_words, most_steps, row_place, entry_place, desk_words, row_on}
use Rattle.rules.specs.Decide.{entered}
use Rattle.rules.specs.TakeBack.{last_place, withdrawn}
use Rattle.step_laws.specs.Clean.{Clean}
use Rattle.desk_laws.proofs.Formed.{Formed, head-inside}
use Rattle.desk_laws.proofs.Stores.{row_same}

-- one more entry ends within the desk
pub entry-fits : (d : List ℕ) (j : ℕ) → j < most_steps → entry_place d j + entry_words ≤ desk_words (capacity d)
unfolding entry_place desk_words
entry-fits d j h = omega arith

pub entry-inside : {d : List ℕ} → Formed d → standing d < most_steps → entry_place d (standing d) + entry_words ≤ length d
entry-inside {d} f h = omega (arith, entry-fits d (standing d) h, f.reaching)

-- entries lie behind the head
pub entry_past : (d : List ℕ) (j : ℕ) → row_place (capacity d) ≤ entry_place d j
unfolding entry_place
entry_past d j = omega arith

-- the place of the next entry, on a desk where one more step stands
pub entry_next : (d e : List ℕ) → capacity e ≡ capacity d → standing e ≡ standing d + 1 → entry_place e (standing e) ≡ entry_place d (standing d) + entry_words
unfolding entry_place
entry_next d e c s = rw (c, s) (omega arith)

pub row-past-head : (i : ℕ) → head_words ≤ row_place i
unfolding row_place
row-past-head i = omega arith

module _ (d entry : List ℕ) where
  pub length-entered : length (entered d entry) ≡ length d
  unfolding entered
  length-entered = simp (length-set, length-sets)

  pub entered-out : (p : ℕ) → (p ≡ 3 → ⊥) → (p < entry_place d (standing d)) ⊎ (entry_place d (standing d) + length entry ≤ p)
      → get_or (entered d entry) p 0 ≡ get_or d p 0
  unfolding entered
  entered-out p n h =
      get_or-set_other (sets d (entry_place d (standing d)) entry) 3 p (standing d + 1) 0 n
      ∙ sets-out d (entry_place d (standing d)) entry p 0 h

  pub entered-head : (p : ℕ) → (p < head_words) × (p ≡ 3 → ⊥) → get_or (entered d entry) p 0 ≡ get_or d p 0
  entered-head p o = entered-out p o.1 (inl (omega (arith, entry_past d (standing d), row-past-head (capacity d))))

  pub entered-standing : 3 < length d → standing (entered d entry) ≡ standing d + 1
  unfolding entered
  entered-standing h = get_or-set_same (sets d (entry_place d (standing d)) entry) 3 (standing d + 1) 0 (rw length-sets h)

  pub entered-in : (k : ℕ) → k < length entry → entry_place d (standing d) + k < length d
      → get_or (entered d entry) (entry_place d (standing d) + k) 0 ≡ get_or entry k 0
  unfolding entered
  entered-in k l h =
      let at : ℕ = entry_place d (standing d) in
      let e : at + k - at ≡ k = omega arith in
      get_or-set_other (sets d at entry) 3 (at + k) (standing d + 1) 0 (λ q. omega (arith, entry_past d (standing d), row-past-head (capacity d)))
      ∙ sets-in d at entry (at + k) 0 (omega arith) (omega arith) h ∙ rw e

-- ---- withdrawn

module _ (d : List ℕ) where
  pub length-withdrawn : length (withdrawn d) ≡ length d
  unfolding withdrawn
  length-withdrawn = length-set (zeroed d (last_place d) entry_words) 3 (standing d - 1) ∙ length-zeroed d (last_place d) entry_words

  pub withdrawn-standing : 3 < length d → standing (withdrawn d) ≡ standing d - 1
  unfolding withdrawn
  withdrawn-standing h = get_or-set_same (zeroed d (last_place d) entry_words) 3 (standing d - 1) 0 (rw length-zeroed h)

  pub withdrawn-in : (p : ℕ) → (p ≡ 3 → ⊥) → last_place d ≤ p → p < last_place d + entry_words → get_or (withdrawn d) p 0 ≡ 0
  unfolding withdrawn
  withdrawn-in p n a b =
      get_or-set_other (zeroed d (last_place d) entry_words) 3 p (standing d - 1) 0 n ∙ zeroed-in d (last_place d) entry_words p a b

  pub withdrawn-out : (p : ℕ) → (p ≡ 3 → ⊥) → (p < last_place d) ⊎ (last_place d + entry_words ≤ p) → get_or (withdrawn d) p 0 ≡ get_or d p 0
  unfolding withdrawn
  withdrawn-out p n h =
      get_or-set_other (zeroed d (last_place d) entry_words) 3 p (standing d - 1) 0 n ∙ zeroed-out d (last_place d) entry_words p h

  -- the last entry lies behind the rows
  pub last-past : row_place (capacity d) ≤ last_place d
  unfolding last_place
  last-past = entry_past d (standing d - 1)

  pub withdrawn-head : (p : ℕ) → (p < head_words) × (p ≡ 3 → ⊥) → get_or (withdrawn d) p 0 ≡ get_or d p 0
  withdrawn-head p o = withdrawn-out p o.1 (inl (omega (arith, last-past, row-past-head (capacity d))))

  pub withdrawn-row : (i : ℕ) → i < capacity d → row_on (withdrawn d) i ≡ row_on d i
  unfolding row_place
  withdrawn-row i h = row_same d (withdrawn d) i (λ p a b. withdrawn-out p (λ q. omega arith) (inl (omega (arith, last-past))))

-- A desk that differs from a clean one in one more step standing and in that step's entry, which is then withdrawn.
pub withdrawn-back : (d e : List ℕ) → Formed d → Clean d → standing d < most_steps → length e ≡ length d → capacity e ≡ capacity d → standing e ≡ standing d + 1
    → ((p : ℕ) → (p ≡ 3 → ⊥) → (p < entry_place d (standing d)) ⊎ (entry_place d (standing d) + entry_words ≤ p) → get_or e p 0 ≡ get_or d p 0) → withdrawn e ≡ d
withdrawn-back d e f clean room long c s same =
    ext_get_or 0 (withdrawn e) d (length-withdrawn e ∙ long)
    (λ p h. ⊎_elim (at_count p) (λ n. elsewhere p n (lt-or-le p at) (lt-or-le p (at + entry_words))) (eq-or-ne p 3))
  where
    at : ℕ
    at = entry_place d (standing d)

    last : last_place e ≡ at
    last = unfold last_place entry_place in (let k : standing e - 1 ≡ standing d = omega arith in rw (k, c))

    at_count : (p : ℕ) → p ≡ 3 → get_or (withdrawn e) p 0 ≡ get_or d p 0
    at_count p q = rw q (withdrawn-standing e (rw long (omega (arith, head-inside f))) ∙ omega arith)

    elsewhere : (p : ℕ) → (p ≡ 3 → ⊥) → (p < at) ⊎ (at ≤ p) → (p < at + entry_words) ⊎ (at + entry_words ≤ p) → get_or (withdrawn e) p 0 ≡ get_or d p 0
    elsewhere p n (inl a) b = withdrawn-out e p n (rw last (inl a)) ∙ same p n (inl a)
    elsewhere p n (inr a) (inr b) = withdrawn-out e p n (rw last (inr b)) ∙ same p n (inr b)
    elsewhere p n (inr a) (inl b) =
        withdrawn-in e p n (rw last a) (rw last b) ∙ sym (clean.entries p a (omega (arith, entry-fits d (standing d) room)))
