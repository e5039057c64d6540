-- A rewriting before any kind is looked at: named rows lose w, any new rows of weight w come behind those in use, conceded gains any sum.
-- What each word is afterwards: of the head, of a row, of the entry. A place outside these is read as before.
use Prim.Native.Nat.{ℕ, suc, ◌+◌, ◌-◌, ◌*◌, ◌≤◌, ◌<◌, min}
use mathlib.Core.Path.{◌≡◌, refl, sym, ap, ◌∙◌}
use mathlib.Core.Logic.{◌⊎◌, inl}
use mathlib.Core.List.{List, [], ◌∷◌, ◌++◌}
use native.Mathlib.Nat.{add-zero}
use native.Mathlib.Omega.{arith}
use lib.ListN.{length, get_or, set, take, drop, replicate, length-set, length-append, length-take, length-drop, length-replicate, get_or-append}
use lib.Seq.{get_or-set_same, get_or-set_other, get_or-append-add, get_or-take, get_or-drop, ext_get_or}
use Rattle.literals.specs.declared.Lits.{Lits}
use Rattle.rules.specs.Desk.{head_words, in_use, capacity, standing, conceded, entry_words, most_steps, row_place, entry_place, row_on}
use Rattle.rules.specs.Decide.{entered}
use Rattle.rules.specs.Rewrite.{given, lightest, laid, rewriting_entry, rewrite_step}
use Rattle.rules.specs.Steps.{most_named, stored, empties, reweighed}
use Rattle.rules.specs.TakeBack.{last_place, last_kind, last_weight, last_count, last_named, last_first}
use Rattle.desk_laws.proofs.Formed.{Formed, head-inside}
use Rattle.desk_laws.proofs.Stores.{Distinct, Outside, row_same, length-reweighed, length-laid, laid_out_lem, laid-head, reweighed-out, reweighed-head}
use Rattle.step_laws.proofs.Entries.{entry-inside, entry_past, row-past-head, length-entered, entered-out, entered-head, entered-standing, entered-in}

-- the named rows less w, and the new rows behind those in use
unfoldable pub rows_after : List ℕ → ℕ → List ℕ → List Lits → List ℕ
rows_after d w named new = laid (reweighed (λ x. x - w) (λ i. get_or named i 0) d (length named)) (in_use d) w new

unfoldable pub rewritten : List ℕ → ℕ → ℕ → List ℕ → List Lits → ℕ → List ℕ
rewritten d kind w named new c =
    entered (set (set (rows_after d w named new) 1 (in_use d + length new)) 4 (conceded d + c)) (rewriting_entry kind w named (in_use d))

pub step-rewritten : (d : List ℕ) (kind : ℕ) (named : List ℕ)
    → rewrite_step d kind named ≡ rewritten d kind (lightest d named) named (stored (given d kind named)) (lightest d named * empties (given d kind named))
unfolding rewrite_step rewritten rows_after
step-rewritten d kind named = refl

-- what makes such a rewriting possible
pub record Plan (d : List ℕ) (w : ℕ) (named : List ℕ) (new : List Lits) : Type 0 where
  pub desk : Formed d
  pub room : standing d < most_steps
  pub few : length named ≤ most_named
  pub used : (i : ℕ) → i < length named → get_or named i 0 < in_use d
  pub apart : Distinct (length named) (λ i. get_or named i 0)
  pub heavy : (i : ℕ) → i < length named → w ≤ (row_on d (get_or named i 0)).weight
  pub space : in_use d + length new ≤ capacity d

-- ---- the entry

module _ (kind w : ℕ) (named : List ℕ) (first : ℕ) (few : length named ≤ most_named) where
  pub entry_length : length (rewriting_entry kind w named first) ≡ entry_words
  unfolding rewriting_entry
  entry_length =
      let e : length (named ++ (replicate (most_named - length named) 0 ++ (first ∷ []))) ≡ length named + ((most_named - length named) + 1) =
      length-append named (replicate (most_named - length named) 0 ++ (first ∷ []))
      ∙ ap (λ (x : ℕ). length named + x)
      (length-append (replicate {A = ℕ} (most_named - length named) 0) (first ∷ [])
      ∙ ap (λ (x : ℕ). x + 1) (length-replicate {A = ℕ} (most_named - length named) 0)) in
      omega arith

  pub entry_named : (i : ℕ) → i < length named → get_or (rewriting_entry kind w named first) (3 + i) 0 ≡ get_or named i 0
  unfolding rewriting_entry
  entry_named i h = three i ∙ get_or-append named (replicate (most_named - length named) 0 ++ (first ∷ [])) 0 i h
    where
      three : (i : ℕ) → get_or (kind ∷ w ∷ length named ∷ (named ++ (replicate (most_named - length named) 0 ++ (first ∷ [])))) (3 + i) 0 ≡ get_or
          (named ++ (replicate (most_named - length named) 0 ++ (first ∷ []))) i 0
      three i = let e : 3 + i ≡ suc (suc (suc i)) = omega arith in rw e

  pub entry_first : get_or (rewriting_entry kind w named first) 15 0 ≡ first
  unfolding rewriting_entry
  entry_first =
      let r : List ℕ = replicate (most_named - length named) 0 in
      let e : 12 ≡ length named + (length r + 0) = omega (arith, length-replicate {A = ℕ} (most_named - length named) 0) in
      ap (λ (k : ℕ). get_or (named ++ (r ++ (first ∷ []))) k 0) e
      ∙ get_or-append-add named (r ++ (first ∷ [])) (length r + 0) 0 ∙ get_or-append-add r (first ∷ []) 0 0

-- ---- the words afterwards

module _ (d : List ℕ) (w : ℕ) (named : List ℕ) (new : List Lits) where
  pub length-rows : length (rows_after d w named new) ≡ length d
  unfolding rows_after
  length-rows =
      length-laid (reweighed (λ x. x - w) (λ i. get_or named i 0) d (length named)) (in_use d) w new
      ∙ length-reweighed (λ x. x - w) (λ i. get_or named i 0) d (length named)

  -- outside the new rows
  pub rows_out : (p : ℕ) → (p < row_place (in_use d)) ⊎ (row_place (in_use d + length new) ≤ p)
      → get_or (rows_after d w named new) p 0 ≡ get_or (reweighed (λ x. x - w) (λ i. get_or named i 0) d (length named)) p 0
  unfolding rows_after
  rows_out p h = laid_out_lem (reweighed (λ x. x - w) (λ i. get_or named i 0) d (length named)) (in_use d) w new p h

  pub rows_head : (p : ℕ) → p < head_words → get_or (rows_after d w named new) p 0 ≡ get_or d p 0
  unfolding rows_after
  rows_head p h =
      laid-head (reweighed (λ x. x - w) (λ i. get_or named i 0) d (length named)) (in_use d) w new p h
      ∙ reweighed-head (λ x. x - w) (λ i. get_or named i 0) d (length named) p h

module _ (d : List ℕ) (kind w : ℕ) (named : List ℕ) (new : List Lits) (c : ℕ) (plan : Plan d w named new) where
  -- the desk but for its entry
  abbrev counted : List ℕ
  counted = set (set (rows_after d w named new) 1 (in_use d + length new)) 4 (conceded d + c)

  counted-out : (p : ℕ) → (p ≡ 1 → ⊥) → (p ≡ 4 → ⊥) → get_or counted p 0 ≡ get_or (rows_after d w named new) p 0
  counted-out p a b =
      get_or-set_other (set (rows_after d w named new) 1 (in_use d + length new)) 4 p (conceded d + c) 0 b
      ∙ get_or-set_other (rows_after d w named new) 1 p (in_use d + length new) 0 a

  counted-head : (p : ℕ) → (p < head_words) × (p ≡ 1 → ⊥) × (p ≡ 4 → ⊥) → get_or counted p 0 ≡ get_or d p 0
  counted-head p o = counted-out p o.1 o.2 ∙ rows_head d w named new p o.0

  length-counted : length counted ≡ length d
  length-counted = simp length-set (length-rows d w named new)

  counted-place : entry_place counted (standing counted) ≡ entry_place d (standing d)
  unfolding entry_place
  counted-place =
      let s : standing counted ≡ standing d = counted-head 3 (omega arith) in
      let k : capacity counted ≡ capacity d = counted-head 2 (omega arith) in
      rw (s, k)

  abbrev entry : List ℕ
  entry = rewriting_entry kind w named (in_use d)

  abbrev after : List ℕ
  after = rewritten d kind w named new c

  pub length-rewritten : length after ≡ length d
  unfolding rewritten
  length-rewritten = length-entered counted entry ∙ length-counted

  -- outside the entry and three words of the head
  pub rewritten-out : (p : ℕ) → (p ≡ 1 → ⊥) → (p ≡ 3 → ⊥) → (p ≡ 4 → ⊥)
      → (p < entry_place d (standing d)) ⊎ (entry_place d (standing d) + entry_words ≤ p) → get_or after p 0 ≡ get_or (rows_after d w named new) p 0
  unfolding rewritten
  rewritten-out p a b e h =
      entered-out counted entry p b (rw (counted-place, entry_length kind w named (in_use d) plan.few) h) ∙ counted-out p a e

  pub rewritten-head : (p : ℕ) → (p < head_words) × (p ≡ 1 → ⊥) × (p ≡ 3 → ⊥) × (p ≡ 4 → ⊥) → get_or after p 0 ≡ get_or d p 0
  rewritten-head p o =
      rewritten-out p o.1 o.2 o.3 (inl (omega (arith, entry_past d (standing d), row-past-head (capacity d)))) ∙ rows_head d w named new p o.0

  pub rewritten-use : in_use after ≡ in_use d + length new
  unfolding rewritten
  rewritten-use =
      entered-head counted entry 1 (omega arith)
      ∙ get_or-set_other (set (rows_after d w named new) 1 (in_use d + length new)) 4 1 (conceded d + c) 0 (λ q. omega arith)
      ∙ get_or-set_same (rows_after d w named new) 1 (in_use d + length new) 0 (rw (length-rows d w named new) (omega (arith, head-inside plan.desk)))

  pub rewritten-conceded : conceded after ≡ conceded d + c
  unfolding rewritten
  rewritten-conceded =
      entered-head counted entry 4 (omega arith)
      ∙ get_or-set_same (set (rows_after d w named new) 1 (in_use d + length new)) 4 (conceded d + c) 0
      (simp length-set (rw (length-rows d w named new) (omega (arith, head-inside plan.desk))))

  pub rewritten-capacity : capacity after ≡ capacity d
  rewritten-capacity = rewritten-head 2 (omega arith)

  pub rewritten-standing : standing after ≡ standing d + 1
  unfolding rewritten
  rewritten-standing =
      entered-standing counted entry (rw length-counted (omega (arith, head-inside plan.desk)))
      ∙ ap (λ (x : ℕ). x + 1) (counted-head 3 (omega arith))

  pub rewritten-row : (i : ℕ) → i < capacity d → row_on after i ≡ row_on (rows_after d w named new) i
  unfolding row_place
  rewritten-row i h =
      row_same (rows_after d w named new) after i
      (λ p a b. rewritten-out p (λ q. omega arith) (λ q. omega arith) (λ q. omega arith) (inl (omega (arith, entry_past d (standing d)))))

  -- a place that is none of those: of the head, of a named row, of a new row, of the entry
  pub rewritten-untouched : (p : ℕ) → (p ≡ 1 → ⊥) → (p ≡ 3 → ⊥) → (p ≡ 4 → ⊥) → ((i : ℕ) → i < length named → Outside p (get_or named i 0))
      → (p < row_place (in_use d)) ⊎ (row_place (in_use d + length new) ≤ p)
      → (p < entry_place d (standing d)) ⊎ (entry_place d (standing d) + entry_words ≤ p) → get_or after p 0 ≡ get_or d p 0
  rewritten-untouched p a b e rows news entries =
      rewritten-out p a b e entries ∙ rows_out d w named new p news ∙ reweighed-out (λ x. x - w) (λ i. get_or named i 0) d (length named) p rows

  -- the words of the entry
  entry-word : (k : ℕ) → k < entry_words → get_or after (entry_place d (standing d) + k) 0 ≡ get_or entry k 0
  unfolding rewritten
  entry-word k h =
      ap (λ (at : ℕ). get_or after (at + k) 0) (sym counted-place)
      ∙ entered-in counted entry k (rw (entry_length kind w named (in_use d) plan.few) h)
      (rw (counted-place, length-counted) (omega (arith, entry-inside plan.desk plan.room)))

  pub rewritten-entry : take entry_words (drop (entry_place d (standing d)) after) ≡ entry
  rewritten-entry =
      let at : ℕ = entry_place d (standing d) in
      let inside = entry-inside plan.desk plan.room in
      let sixteen = entry_length kind w named (in_use d) plan.few in
      let long : length (take entry_words (drop at after)) ≡ length entry =
      length-take entry_words (drop at after)
      ∙ ap (λ (x : ℕ). min entry_words x) (length-drop at after ∙ ap (λ (x : ℕ). x - at) length-rewritten)
      ∙ omega arith in
      ext_get_or 0 (take entry_words (drop at after)) entry long
      (λ k h.
      let l : k < entry_words = omega arith in
      get_or-take entry_words (drop at after) k 0 l ∙ get_or-drop at after k 0 ∙ entry-word k l)

  -- ---- the last entry

  pub rewritten-last : last_place after ≡ entry_place d (standing d)
  unfolding last_place entry_place
  rewritten-last =
      let s : standing after - 1 ≡ standing d = omega (arith, rewritten-standing) in
      rw (s, rewritten-capacity)

  last_word : (k : ℕ) → k < entry_words → get_or after (last_place after + k) 0 ≡ get_or entry k 0
  last_word k h = ap (λ (at : ℕ). get_or after (at + k) 0) rewritten-last ∙ entry-word k h

  pub last-kind : last_kind after ≡ kind
  unfolding last_kind rewriting_entry
  last-kind = rw (add-zero (last_place after)) at (last_word 0 (omega arith))

  pub last-weight : last_weight after ≡ w
  unfolding last_weight rewriting_entry
  last-weight = last_word 1 (omega arith)

  pub last-count : last_count after ≡ length named
  unfolding last_count rewriting_entry
  last-count = last_word 2 (omega arith)

  pub last-named : (i : ℕ) → i < length named → last_named after i ≡ get_or named i 0
  unfolding last_named
  last-named i h =
      let e : last_place after + 3 + i ≡ last_place after + (3 + i) = omega arith in
      rw e (last_word (3 + i) (omega (arith, plan.few)) ∙ entry_named kind w named (in_use d) plan.few i h)

  pub last-first : last_first after ≡ in_use d
  unfolding last_first
  last-first =
      let e : last_place after + 3 + most_named ≡ last_place after + 15 = omega arith in
      rw e (last_word 15 (omega arith) ∙ entry_first kind w named (in_use d) plan.few)
