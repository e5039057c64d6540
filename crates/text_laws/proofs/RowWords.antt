-- A row in its words. Only these laws know how many words a row has and in which order they stand: the rows of a text cite them alone.
use Prim.Native.Nat.{ℕ, suc, ◌+◌, ◌≤◌}
use mathlib.Core.Path.{◌≡◌, refl}
use mathlib.Core.List.{List, ◌++◌}
use native.Mathlib.Omega.{arith}
use lib.ListN.{length, drop}
use lib.Seq.{drop-cons}
use Rattle.rules.specs.declared.Row.{Row}
use Rattle.rules.specs.Table.{row_words, row_in, row_words_of}

pub row_words_lem : (row : Row) → length (row_words_of row) ≡ row_words
unfolding row_words_of
row_words_lem row = refl

-- a row's own words, in front of others
pub row-front : (row : Row) (more : List ℕ) → row_in (row_words_of row ++ more) 0 ≡ row
unfolding row_in row_words_of
row-front row more = refl

pub row-past : (row : Row) (more : List ℕ) (at : ℕ) → row_in (row_words_of row ++ more) (row_words + at) ≡ row_in more at
unfolding row_in row_words_of
row-past row more at =
    let here : row_words + at ≡ suc (suc (suc (suc at))) = omega arith in
    let one : suc (suc (suc (suc at))) + 1 ≡ suc (suc (suc (suc (at + 1)))) = omega arith in
    let two : suc (suc (suc (suc at))) + 2 ≡ suc (suc (suc (suc (at + 2)))) = omega arith in
    let three : suc (suc (suc (suc at))) + 3 ≡ suc (suc (suc (suc (at + 3)))) = omega arith in
    rw (here, one, two, three)

-- the words from a place on are those of the row that begins there, and then the rest
pub row_drop : (words : List ℕ) (at : ℕ) → at + row_words ≤ length words → drop at words ≡ row_words_of (row_in words at) ++ drop (at + row_words) words
unfolding row_in row_words_of
row_drop words at h =
    let one : at + 1 ≡ suc at = omega arith in
    let two : at + 2 ≡ suc (suc at) = omega arith in
    let three : at + 3 ≡ suc (suc (suc at)) = omega arith in
    let end : at + row_words ≡ suc (suc (suc (suc at))) = omega arith in
    rw (one, two, three, end, drop-cons words at 0 (omega arith), drop-cons words (suc at) 0 (omega arith))
    (rw (drop-cons words (suc (suc at)) 0 (omega arith), drop-cons words (suc (suc (suc at))) 0 (omega arith)))
