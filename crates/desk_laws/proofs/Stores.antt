-- What is read after stores, by places: a store changes the words it names and no other.
-- Rows lie one behind the other behind the head, and entries behind the rows, so a place tells whose word it is by linear facts.
-- New weights are read row by row, where no row is named twice; new rows by where a place stands beside their run.
use Prim.Native.Nat.{ℕ, zero, suc, ◌+◌, ◌-◌, ◌/◌, ◌≤◌, ◌<◌}
use mathlib.Core.Path.{◌≡◌, refl, sym, ap, ◌∙◌}
use mathlib.Core.Logic.{◌⊎◌, inl, inr, ⊎_elim}
use mathlib.Core.Bool.{false}
use mathlib.Core.List.{List, [], ◌∷◌}
use native.Mathlib.Nat.{le_step, le_refl, le_trans, eq-or-lt_of_le, le_of_suc-le-suc, add-zero}
use native.Mathlib.Omega.{arith}
use lib.ListN.{length, get_or, set}
use lib.Seq.{sets, length-sets, get_or-set_other}
use lib.Dec.{ltb}
use Rattle.masks.proofs.Choice.{lt-or-le, eq-or-ne, or-none}
use Rattle.masks.proofs.Words.{sets-before, sets-out}
use Rattle.masks.proofs.Sums.{downwards, upwards}
use Rattle.literals.specs.declared.Lits.{Lits}
use Rattle.literals.specs.Lits.{no_lits}
use Rattle.rules.specs.declared.Row.{Row}
use Rattle.rules.specs.Table.{row_words, row_words_of, new_row, with_weight, hard_mark, is_hard, bad_mark}
use Rattle.rules.specs.Desk.{head_words, row_place, row_on, set_row, set_weight}
use Rattle.rules.specs.Rewrite.{laid}
use Rattle.rules.specs.Steps.{reweighed}
use Rattle.desk_laws.proofs.Rows.{length-row, row-of-words, row-stored, words-of-row}
use Rattle.desk_laws.proofs.Formed.{place_mono, place-next, head-before}

-- ---- a row is its words

-- a place outside row i
abbrev pub Outside : ℕ → ℕ → Type 0
Outside p i = (p < row_place i) ⊎ (row_place (suc i) ≤ p)

pub row_same : (d e : List ℕ) (i : ℕ) → ((p : ℕ) → row_place i ≤ p → p < row_place (suc i) → get_or e p 0 ≡ get_or d p 0) → row_on e i ≡ row_on d i
unfolding row_on
row_same d e i h =
    row-of-words d e (row_place i) (row_place i) (λ k l. h (row_place i + k) (omega arith) (omega (arith, place-next i)))

-- and the words of the same row are the same
pub words_same : (d e : List ℕ) (i p : ℕ) → row_on e i ≡ row_on d i → row_place i ≤ p → p < row_place (suc i) → get_or e p 0 ≡ get_or d p 0
unfolding row_on
words_same d e i p q a b =
    let k : ℕ = p - row_place i in
    let l : k < row_words = omega (arith, place-next i) in
    let at : row_place i + k ≡ p = omega arith in
    rw (← at) (sym (words-of-row e (row_place i) k l) ∙ ap (λ (r : Row). get_or (row_words_of r) k 0) q ∙ words-of-row d (row_place i) k l)

-- rows lie one behind the other: a place in one of them is outside every other
pub rows_apart : (i j p : ℕ) → (j ≡ i → ⊥) → row_place j ≤ p → p < row_place (suc j) → Outside p i
rows_apart i j p n a b =
    ⊎_elim
    (λ l. inl (omega (arith, place_mono l)))
    (λ l. inr (⊎_elim (λ k. omega (arith, place_mono k)) (λ k. absurd (n (omega arith))) (lt-or-le i j)))
    (lt-or-le j i)

-- a place behind the head lies in a row
pub row-at-place : (p : ℕ) → head_words ≤ p → (j : ℕ) × (row_place j ≤ p) × (p < row_place (suc j))
unfolding row_place
row-at-place p h = ((p - head_words) / row_words, omega arith, omega arith)

-- stores in the head, and stores past the rows, leave the rows
pub row-head : (d : List ℕ) (p v i : ℕ) → p < head_words → row_on (set d p v) i ≡ row_on d i
unfolding row_place
row-head d p v i h = row_same d (set d p v) i (λ q l m. get_or-set_other d p q v 0 (λ e. omega arith))

pub row-past : (d : List ℕ) (p : ℕ) (vs : List ℕ) (i : ℕ) → row_place (suc i) ≤ p → row_on (sets d p vs) i ≡ row_on d i
row-past d p vs i h = row_same d (sets d p vs) i (λ q l m. sets-before d p vs q 0 (omega arith))

-- ---- one row

pub length-set-row : (d : List ℕ) (i : ℕ) (row : Row) → length (set_row d i row) ≡ length d
unfolding set_row
length-set-row d i row = length-sets d (row_place i) (row_words_of row)

pub length-set-weight : (d : List ℕ) (i w : ℕ) → length (set_weight d i w) ≡ length d
unfolding set_weight
length-set-weight d i w = length-set-row d i (with_weight (row_on d i) w)

module _ (d : List ℕ) (i : ℕ) where
  pub set-row-same : (row : Row) → row_place (suc i) ≤ length d → row_on (set_row d i row) i ≡ row
  unfolding row_on set_row
  set-row-same row h = row-stored d (row_place i) row (omega (arith, place-next i))

  pub set-row-out : (row : Row) (p : ℕ) → Outside p i → get_or (set_row d i row) p 0 ≡ get_or d p 0
  unfolding set_row
  set-row-out row p h =
      sets-out d (row_place i) (row_words_of row) p 0 (⊎_elim inl (λ m. inr (omega (arith, place-next i, length-row row))) h)

  pub set-row-other : (row : Row) (j : ℕ) → (j ≡ i → ⊥) → row_on (set_row d i row) j ≡ row_on d j
  set-row-other row j n = row_same d (set_row d i row) j (λ q a b. set-row-out row q (rows_apart i j q n a b))

  pub set-weight-same : (w : ℕ) → row_place (suc i) ≤ length d → row_on (set_weight d i w) i ≡ with_weight (row_on d i) w
  unfolding set_weight
  set-weight-same w h = set-row-same (with_weight (row_on d i) w) h

  pub set-weight-out : (w p : ℕ) → Outside p i → get_or (set_weight d i w) p 0 ≡ get_or d p 0
  unfolding set_weight
  set-weight-out w p h = set-row-out (with_weight (row_on d i) w) p h

  pub set-weight-other : (w j : ℕ) → (j ≡ i → ⊥) → row_on (set_weight d i w) j ≡ row_on d j
  unfolding set_weight
  set-weight-other w j n = set-row-other (with_weight (row_on d i) w) j n

-- of a soft row the mark alone can be bad
pub soft-marked : (r s : Row) → s.mark ≡ r.mark → is_hard r ≡ false → bad_mark r ≡ false → bad_mark s ≡ false
unfolding bad_mark is_hard
soft-marked r s e soft fine = rw (e, soft, (or-none (ltb hard_mark r.mark) _ fine).0)

-- ---- new weights for named rows

-- no two of the first n are the same
abbrev pub Distinct : ℕ → (ℕ → ℕ) → Type 0
Distinct n row = (i j : ℕ) → i < j → j < n → row i ≡ row j → ⊥

-- an index is among the first n, or it is not
pub named-or-not : (n : ℕ) (row : ℕ → ℕ) (p : ℕ) → ((i : ℕ) × (i < n) × (p ≡ row i)) ⊎ ((i : ℕ) → i < n → p ≡ row i → ⊥)
named-or-not zero row p = inr (λ i l e. omega arith)
named-or-not (suc n) row p =
    ⊎_elim
    (λ w. inl (w.0, le_step w.1, w.2))
    (λ out. ⊎_elim (λ e. inl (n, le_refl (suc n), e)) (λ ne. inr (upwards {P = λ i. p ≡ row i → ⊥} out ne)) (eq-or-ne p (row n)))
    (named-or-not n row p)

module _ (new : ℕ → ℕ) (row : ℕ → ℕ) (d : List ℕ) where
  pub length-reweighed : (n : ℕ) → length (reweighed new row d n) ≡ length d
  unfolding reweighed
  length-reweighed zero = refl
  length-reweighed (suc n) =
      length-set-weight (reweighed new row d n) (row n) (new (row_on (reweighed new row d n) (row n)).weight) ∙ length-reweighed n

  pub reweighed-out : (n p : ℕ) → ((i : ℕ) → i < n → Outside p (row i)) → get_or (reweighed new row d n) p 0 ≡ get_or d p 0
  unfolding reweighed
  reweighed-out zero p h = refl
  reweighed-out (suc n) p h =
      set-weight-out (reweighed new row d n) (row n) (new (row_on (reweighed new row d n) (row n)).weight) p (h n (le_refl (suc n)))
      ∙ reweighed-out n p (downwards h)

  pub reweighed-head : (n p : ℕ) → p < head_words → get_or (reweighed new row d n) p 0 ≡ get_or d p 0
  reweighed-head n p h = reweighed-out n p (λ i l. inl (omega (arith, head-before (row i))))

  -- a row that is not named stays
  pub reweighed-other : (n j : ℕ) → ((i : ℕ) → i < n → j ≡ row i → ⊥) → row_on (reweighed new row d n) j ≡ row_on d j
  reweighed-other n j h =
      row_same d (reweighed new row d n) j (λ p a b. reweighed-out n p (λ i l. rows_apart (row i) j p (h i l) a b))

  -- the row named next is still as it was
  pub reweighed-yet : (n : ℕ) → Distinct (suc n) row → row_on (reweighed new row d n) (row n) ≡ row_on d (row n)
  reweighed-yet n apart = reweighed-other n (row n) (λ i l e. apart i n l (le_refl (suc n)) (sym e))

  -- a named row has its new weight
  pub reweighed-at : (n : ℕ) → Distinct n row → (i : ℕ) → i < n → row_place (suc (row i)) ≤ length d
      → row_on (reweighed new row d n) (row i) ≡ with_weight (row_on d (row i)) (new (row_on d (row i)).weight)
  unfolding reweighed
  reweighed-at zero apart i l h = absurd (omega arith)
  reweighed-at (suc n) apart i l h =
      ⊎_elim
      (λ q. let same : row i ≡ row n = ap row q in rw same (last (rw (← same) h)))
      (λ m. set-weight-other e (row n) x (row i) (apart i n m (le_refl (suc n))) ∙ reweighed-at n (λ a b k y. apart a b k (le_step y)) i m h)
      (eq-or-lt_of_le (le_of_suc-le-suc l))
    where
      e : List ℕ
      e = reweighed new row d n

      x : ℕ
      x = new (row_on e (row n)).weight

      last : row_place (suc (row n)) ≤ length d → row_on (set_weight e (row n) x) (row n) ≡ with_weight (row_on d (row n)) (new (row_on d (row n)).weight)
      last h =
          set-weight-same e (row n) x (rw (length-reweighed n) h)
          ∙ ap (λ (r : Row). with_weight r (new r.weight)) (reweighed-yet n apart)

  -- whatever is asked of a row beside its weight stays
  pub reweighed-keeps : {A : Type 0} (f : Row → A) → ((r : Row) (x : ℕ) → f (with_weight r x) ≡ f r) → (n : ℕ)
      → ((i : ℕ) → i < n → row_place (suc (row i)) ≤ length d) → (j : ℕ) → f (row_on (reweighed new row d n) j) ≡ f (row_on d j)
  unfolding reweighed
  reweighed-keeps f same zero h j = refl
  reweighed-keeps f same (suc n) h j =
      ⊎_elim
      (λ q. rw q (ap f (set-weight-same e (row n) x (rw (length-reweighed n) (h n (le_refl (suc n))))) ∙ same (row_on e (row n)) x))
      (λ m. ap f (set-weight-other e (row n) x j m))
      (eq-or-ne j (row n))
      ∙ reweighed-keeps f same n (downwards h) j
    where
      e : List ℕ
      e = reweighed new row d n

      x : ℕ
      x = new (row_on e (row n)).weight

  -- literals stay
  pub reweighed-lits : (n : ℕ) → ((i : ℕ) → i < n → row_place (suc (row i)) ≤ length d) → (j : ℕ) → (row_on (reweighed new row d n) j).lits ≡ (row_on d j).lits
  reweighed-lits n h j = reweighed-keeps (λ r. r.lits) (λ r x. refl) n h j

  -- and marks; where the named rows are soft, none becomes bad
  pub reweighed-marked : (n : ℕ) → ((i : ℕ) → i < n → row_place (suc (row i)) ≤ length d) → ((i : ℕ) → i < n → is_hard (row_on d (row i)) ≡ false)
      → (j : ℕ) → bad_mark (row_on d j) ≡ false → bad_mark (row_on (reweighed new row d n) j) ≡ false
  reweighed-marked n h soft j e =
      ⊎_elim
      (λ (w : (i : ℕ) × (i < n) × (j ≡ row i)).
      soft-marked (row_on d j) (row_on (reweighed new row d n) j) (reweighed-keeps (λ r. r.mark) (λ r x. refl) n h j) (rw w.2 (soft w.0 w.1)) e)
      (λ out. rw (reweighed-other n j out) e)
      (named-or-not n row j)

pub reweighed-ext : (new : ℕ → ℕ) (row other : ℕ → ℕ) (d : List ℕ) (n : ℕ) → ((i : ℕ) → i < n → row i ≡ other i)
    → reweighed new row d n ≡ reweighed new other d n
unfolding reweighed
reweighed-ext new row other d zero h = refl
reweighed-ext new row other d (suc n) h =
    rw (reweighed-ext new row other d n (downwards h), h n (le_refl (suc n)))

-- ---- new rows

pub length-laid : (d : List ℕ) (i w : ℕ) (ls : List Lits) → length (laid d i w ls) ≡ length d
unfolding laid
length-laid d i w [] = refl
length-laid d i w (l ∷ ls) = length-laid (set_row d i (new_row l w)) (suc i) w ls ∙ length-set-row d i (new_row l w)

pub laid_out_lem : (d : List ℕ) (i w : ℕ) (ls : List Lits) (p : ℕ) → (p < row_place i) ⊎ (row_place (i + length ls) ≤ p) → get_or (laid d i w ls) p 0 ≡ get_or d p 0
unfolding laid row_place
laid_out_lem d i w [] p h = refl
laid_out_lem d i w (l ∷ ls) p h =
    laid_out_lem (set_row d i (new_row l w)) (suc i) w ls p (⊎_elim (λ m. inl (omega arith)) (λ m. inr (omega arith)) h)
    ∙ set-row-out d i (new_row l w) p (⊎_elim inl (λ m. inr (omega arith)) h)

pub laid-head : (d : List ℕ) (i w : ℕ) (ls : List Lits) (p : ℕ) → p < head_words → get_or (laid d i w ls) p 0 ≡ get_or d p 0
unfolding row_place
laid-head d i w ls p h = laid_out_lem d i w ls p (inl (omega arith))

pub laid-before : (d : List ℕ) (i w : ℕ) (ls : List Lits) (j : ℕ) → j < i → row_on (laid d i w ls) j ≡ row_on d j
unfolding row_place
laid-before d i w ls j h = row_same d (laid d i w ls) j (λ p a b. laid_out_lem d i w ls p (inl (omega arith)))

-- the rows laid, in order
pub laid-at : (d : List ℕ) (i w : ℕ) (ls : List Lits) → row_place (i + length ls) ≤ length d → (j : ℕ) → j < length ls
    → row_on (laid d i w ls) (i + j) ≡ new_row (get_or ls j no_lits) w
unfolding laid
laid-at d i w [] h j m = absurd (omega arith)
laid-at d i w (l ∷ ls) h zero m =
    rw (add-zero i) (laid-before (set_row d i (new_row l w)) (suc i) w ls i (le_refl (suc i))
    ∙ set-row-same d i (new_row l w) (le_trans (place_mono (omega arith)) h))
laid-at d i w (l ∷ ls) h (suc j) m =
    let e : i + suc j ≡ suc i + j = omega arith in
    let n : i + suc (length ls) ≡ suc i + length ls = omega arith in
    rw e (laid-at (set_row d i (new_row l w)) (suc i) w ls (rw (length-set-row d i (new_row l w), ← n) h) j (le_of_suc-le-suc m))
