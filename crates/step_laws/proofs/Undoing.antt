-- The words of a taking back but for the entry: a decision cleared, or rows freed and named rows' weights regained.
-- Stated over any mask, any rows and any sums, so that the same laws serve a step just made and any desk at all.
use Prim.Native.Nat.{ℕ, suc, ◌+◌, ◌*◌, ◌≤◌, ◌<◌}
use mathlib.Core.Path.{◌≡◌, ap, ◌∙◌}
use mathlib.Core.Logic.{inr}
use mathlib.Core.List.{List}
use native.Mathlib.Omega.{arith}
use lib.ListN.{length, get_or, set, length-set}
use lib.Seq.{get_or-set_same, get_or-set_other}
use Rattle.masks.specs.Masks.{without}
use Rattle.masks.specs.Words.{zeroed}
use Rattle.masks.proofs.Words.{zeroed-before, zeroed-out, zeroed-in, length-zeroed}
use Rattle.rules.specs.declared.Row.{Row}
use Rattle.rules.specs.Table.{row_words}
use Rattle.rules.specs.Desk.{head_words, in_use, conceded, decided, truths, row_place, row_on}
use Rattle.rules.specs.Steps.{reweighed}
use Rattle.desk_laws.proofs.Formed.{place_mono}
use Rattle.desk_laws.proofs.Stores.{row_same, row-head, length-reweighed, reweighed-head, reweighed-lits}

-- ---- a decision cleared

module _ (d : List ℕ) (v : ℕ) where
  -- both masks without v
  abbrev pub unset : List ℕ
  unset = set (set d 5 (without (decided d) v)) 6 (without (truths d) v)

  pub unset-out : (p : ℕ) → (p ≡ 5 → ⊥) → (p ≡ 6 → ⊥) → get_or unset p 0 ≡ get_or d p 0
  unset-out p a b = get_or-set_other (set d 5 (without (decided d) v)) 6 p (without (truths d) v) 0 b ∙ get_or-set_other d 5 p (without (decided d) v) 0 a

  pub length-unset : length unset ≡ length d
  length-unset = simp length-set

  pub unset-row : (i : ℕ) → row_on unset i ≡ row_on d i
  unset-row i = row-head (set d 5 (without (decided d) v)) 6 (without (truths d) v) i (omega arith) ∙ row-head d 5 (without (decided d) v) i (omega arith)

  pub unset-decided : head_words ≤ length d → decided unset ≡ without (decided d) v
  unset-decided h =
      get_or-set_other (set d 5 (without (decided d) v)) 6 5 (without (truths d) v) 0 (λ q. omega arith)
      ∙ get_or-set_same d 5 (without (decided d) v) 0 (omega arith)

  pub unset-truths : head_words ≤ length d → truths unset ≡ without (truths d) v
  unset-truths h = get_or-set_same (set d 5 (without (decided d) v)) 6 (without (truths d) v) 0 (rw length-set (omega arith))

-- ---- rows freed and weights regained

module _ (d : List ℕ) (w : ℕ) (row : ℕ → ℕ) (k first m c : ℕ) where
  -- the k named rows regain w
  abbrev pub regained : List ℕ
  regained = reweighed (λ x. x + w) row d k

  -- m rows from the first one on are zeroed
  abbrev pub freed : List ℕ
  freed = zeroed regained (row_place first) (row_words * m)

  abbrev pub emptied : List ℕ
  emptied = set (set freed 1 first) 4 c

  length-freed : length freed ≡ length d
  length-freed = length-zeroed regained (row_place first) (row_words * m) ∙ length-reweighed (λ x. x + w) row d k

  pub length-emptied : length emptied ≡ length d
  length-emptied = simp length-set length-freed

  emptied-out : (p : ℕ) → (p ≡ 1 → ⊥) → (p ≡ 4 → ⊥) → get_or emptied p 0 ≡ get_or freed p 0
  emptied-out p a b = get_or-set_other (set freed 1 first) 4 p c 0 b ∙ get_or-set_other freed 1 p first 0 a

  pub emptied-use : head_words ≤ length d → in_use emptied ≡ first
  emptied-use h =
      get_or-set_other (set freed 1 first) 4 1 c 0 (λ q. omega arith) ∙ get_or-set_same freed 1 first 0 (rw length-freed (omega arith))

  pub emptied-conceded : head_words ≤ length d → conceded emptied ≡ c
  emptied-conceded h = get_or-set_same (set freed 1 first) 4 c 0 (rw (length-set freed 1 first, length-freed) (omega arith))

  pub emptied-freed : (p : ℕ) → row_place first ≤ p → p < row_place (first + m) → get_or emptied p 0 ≡ 0
  unfolding row_place
  emptied-freed p h l =
      emptied-out p (λ q. omega arith) (λ q. omega arith) ∙ zeroed-in regained (row_place first) (row_words * m) p h (omega arith)

  pub emptied-below : (p : ℕ) → (p ≡ 1 → ⊥) → (p ≡ 4 → ⊥) → p < row_place first → get_or emptied p 0 ≡ get_or regained p 0
  emptied-below p a b h = emptied-out p a b ∙ zeroed-before regained (row_place first) (row_words * m) p h

  pub emptied-past : (p : ℕ) → row_place (first + m) ≤ p → get_or emptied p 0 ≡ get_or regained p 0
  unfolding row_place
  emptied-past p h =
      emptied-out p (λ q. omega arith) (λ q. omega arith) ∙ zeroed-out regained (row_place first) (row_words * m) p (inr (omega arith))

  -- the other words of the head
  pub emptied-head : (p : ℕ) → (p < head_words) × (p ≡ 1 → ⊥) × (p ≡ 4 → ⊥) → get_or emptied p 0 ≡ get_or d p 0
  unfolding row_place
  emptied-head p o = emptied-below p o.1 o.2 (omega arith) ∙ reweighed-head (λ x. x + w) row d k p o.0

  pub emptied-row : (i : ℕ) → i < first → row_on emptied i ≡ row_on regained i
  emptied-row i h =
      row-head (set freed 1 first) 4 c i (omega arith) ∙ row-head freed 1 first i (omega arith)
      ∙ row_same regained freed i (λ p a b. zeroed-before regained (row_place first) (row_words * m) p (omega (arith, place_mono h)))

  pub emptied-lits : ((i : ℕ) → i < k → row_place (suc (row i)) ≤ length d) → (i : ℕ) → i < first → (row_on emptied i).lits ≡ (row_on d i).lits
  emptied-lits inside i h =
      ap (λ (r : Row). r.lits) (emptied-row i h)
      ∙ reweighed-lits (λ x. x + w) row d k inside i
