-- A row is its words: it depends on them alone, a row stored is the row read, and the words of the row read are those that stand there.
-- What else is said of rows in words goes through these laws, so that a row of other words moves `row_in`, `row_words_of` and this file.
use Prim.Native.Nat.{ℕ, zero, suc, ◌+◌, ◌≤◌, ◌<◌}
use mathlib.Core.Path.{◌≡◌, refl}
use mathlib.Core.List.{List}
use native.Mathlib.Nat.{add-zero}
use native.Mathlib.Omega.{arith}
use lib.ListN.{length, get_or}
use lib.Seq.{sets}
use Rattle.masks.proofs.Words.{sets-at}
use Rattle.rules.specs.declared.Row.{Row}
use Rattle.rules.specs.Table.{row_words, row_in, row_words_of}

pub length-row : (row : Row) → length (row_words_of row) ≡ row_words
unfolding row_words_of
length-row row = refl

-- the same words, the same row
pub row-of-words : (d e : List ℕ) (at bt : ℕ) → ((k : ℕ) → k < row_words → get_or e (bt + k) 0 ≡ get_or d (at + k) 0) → row_in e bt ≡ row_in d at
unfolding row_in
row-of-words d e at bt h =
    let a : get_or e bt 0 ≡ get_or d at 0 = rw (add-zero bt, add-zero at) at (h 0 (omega arith)) in
    let b = h 1 (omega arith) in
    let c = h 2 (omega arith) in
    let m = h 3 (omega arith) in
    λ t. record { lits = record { positive = a t; negative = b t }; weight = c t; mark = m t }

-- a row stored is the row read
pub row-stored : (d : List ℕ) (at : ℕ) (row : Row) → at + row_words ≤ length d → row_in (sets d at (row_words_of row)) at ≡ row
unfolding row_in row_words_of
row-stored d at row h =
    let a : get_or (sets d at (row_words_of row)) at 0 ≡ row.lits.positive = rw (add-zero at) at (sets-at d at (row_words_of row) 0 0 (omega arith) h) in
    let b = sets-at d at (row_words_of row) 1 0 (omega arith) h in
    let c = sets-at d at (row_words_of row) 2 0 (omega arith) h in
    let m = sets-at d at (row_words_of row) 3 0 (omega arith) h in
    λ t. record { lits = record { positive = a t; negative = b t }; weight = c t; mark = m t }

-- the words of the row read
pub words-of-row : (d : List ℕ) (at k : ℕ) → k < row_words → get_or (row_words_of (row_in d at)) k 0 ≡ get_or d (at + k) 0
unfolding row_in row_words_of
words-of-row d at zero h = rw (add-zero at)
words-of-row d at (suc zero) h = refl
words-of-row d at (suc (suc zero)) h = refl
words-of-row d at (suc (suc (suc zero))) h = refl
words-of-row d at (suc (suc (suc (suc k)))) h = absurd (omega arith)
