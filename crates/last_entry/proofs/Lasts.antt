-- The last entry's words as the definitions name them, and what a standing step says of the lent words.
use Prim.Native.Nat.{ℕ, zero, suc, ◌+◌, ◌-◌, ◌*◌, ◌≤◌, ◌<◌}
use mathlib.Core.Path.{◌≡◌, ap, ◌∙◌}
use mathlib.Core.List.{List}
use mathlib.Core.Bool.{true, not, ◌&&◌}
use native.Mathlib.Nat.{add-zero, mul-le-mul_left, mul-le-mul_right, one-mul, le_trans}
use native.Mathlib.Omega.{arith}
use lib.ListN.{length, get_or, take}
use lib.Seq.{get_or-take, length-take-le}
use lib.Dec.{eqb, ltb, lit≤}
use borrow.Author.Tests.{eq-eqb, lt-ltb}
use Rattle.masks.specs.Sums.{every}
use Rattle.masks.proofs.Sums.{every-ext}
use Rattle.rules.specs.Table.{most_weight}
use Rattle.rules.specs.Desk.{row_place, desk_words}
use Rattle.rules.specs.Steps.{most_named, fewer_added, distinct}
use Rattle.rules.specs.TakeBack.{last_place, last_kind, last_named, last_first}
use Rattle.desk_laws.proofs.Formed.{Formed, formed}
use Rattle.words.specs.Room.{StepStands}
use Rattle.last_entry.specs.Last.{Stands, named_well}

pub whole : (d : List ℕ) → Stands d → Formed d
whole d s = formed d s.formed

pub step-stands : (d : List ℕ) → Stands d → StepStands d
unfolding desk_words row_place
step-stands d s =
    let f = whole d s in
    record { fits = f.roomy; reach = f.reaching; some = s.some; few = f.steps }

pub kind-word : (d : List ℕ) → get_or d (last_place d + 0) 0 ≡ last_kind d
unfolding last_kind
kind-word d = ap (λ (p : ℕ). get_or d p 0) (add-zero (last_place d))

pub first_word : (d : List ℕ) → get_or d (last_place d + 15) 0 ≡ last_first d
unfolding last_first
first_word d =
    let e : last_place d + 15 ≡ last_place d + 3 + most_named = omega arith in
    ap (λ (p : ℕ). get_or d p 0) e

-- the first n of the row numbers that were copied are those named
pub named-same : (d rows : List ℕ) (n first : ℕ) → length rows ≡ most_named → n ≤ most_named → ((i : ℕ) → i < most_named → get_or rows i 0 ≡ last_named d i)
    → (distinct (length (take n rows)) (λ i. get_or (take n rows) i 0) && every (length (take n rows))
    (λ i. ltb (get_or (take n rows) i 0) first)) ≡ named_well d n first
unfolding named_well distinct
named-same d rows n first len few same =
    let k : length (take n rows) ≡ n = length-take-le n rows (omega arith) in
    let at : (i : ℕ) → i < n → get_or (take n rows) i 0 ≡ last_named d i = λ i l. get_or-take n rows i 0 l ∙ same i (omega arith) in
    rw (
      k,
      every-ext n {p = λ j. every j (λ i. not (eqb (get_or (take n rows) i 0) (get_or (take n rows) j 0)))}
          {q = λ j. every j (λ i. not (eqb (last_named d i) (last_named d j)))}
          (λ j l. every-ext j (λ i m. rw (at i (omega arith), at j l))),
      every-ext n {p = λ i. ltb (get_or (take n rows) i 0) first} {q = λ i. ltb (last_named d i) first} (λ i l. rw (at i l)),
    )

-- a sum compared without making it
pub added-up : (total n first : ℕ) → n ≤ total → total - n ≡ first → eqb total (first + n) ≡ true
added-up total n first h e = eq-eqb total (first + n) (omega arith)

pub heavy-alone : (start n w rest : ℕ) → 1 ≤ n → most_weight < w → ltb most_weight (start + n * w + rest) ≡ true
heavy-alone start n w rest some h = lt-ltb most_weight (start + n * w + rest) (omega (arith, mul-le-mul_right w some, one-mul w))

pub times-fits : (n w : ℕ) → n ≤ most_named → w ≤ most_weight → n * w ≤ 12_000_000_000
times-fits n w a b = le_trans (mul-le-mul_right w a) (le_trans (mul-le-mul_left most_named b) (lit≤ tt))

pub fewer-few : (kind : ℕ) → fewer_added kind ≤ 2
unfolding fewer_added
fewer-few zero = omega arith
fewer-few (suc zero) = omega arith
fewer-few (suc (suc zero)) = omega arith
fewer-few (suc (suc (suc zero))) = omega arith
fewer-few (suc (suc (suc (suc zero)))) = omega arith
fewer-few (suc (suc (suc (suc (suc k))))) = omega arith
