-- A rewriting's entry, branch by branch: which of the things on document 01's list makes it bad, and what is left to ask.
use Prim.Native.Nat.{ℕ, ◌+◌, ◌≤◌, ◌<◌}
use mathlib.Core.Path.{◌≡◌}
use mathlib.Core.Logic.{⊎_elim}
use mathlib.Core.List.{List}
use mathlib.Core.Bool.{true, false, not, ◌&&◌, ◌||◌}
use native.Mathlib.Omega.{arith}
use lib.Dec.{eqb, ltb}
use borrow.Author.Tests.{eqb-true, ltb-true, ltb-false, not-false}
use Rattle.masks.specs.Sums.{every}
use Rattle.masks.proofs.Sums.{every-at}
use Rattle.masks.proofs.Choice.{and_left, and_right, or_cases, or-none}
use Rattle.rules.specs.Table.{is_hard}
use Rattle.rules.specs.Desk.{in_use, conceded, loaded, row_on, weight_fits}
use Rattle.rules.specs.Steps.{fewest, most, most_named, fewer_added, count_fits, distinct}
use Rattle.rules.specs.TakeBack.{last_kind, last_count, last_named, last_first, last_conceded, merged_empty, undo_rewriting, bad_rewriting}
use Rattle.desk_laws.proofs.Stores.{Distinct}
use Rattle.desk_laws.proofs.Verdicts.{distinct_apart}
use Rattle.step_laws.proofs.ByKind.{by_kind, counted}
use Rattle.last_entry.specs.Last.{named_well, added_well, soft_named}

-- rows that are named well lie below the first new row
pub below-first : (d : List ℕ) (n first : ℕ) → named_well d n first ≡ true → (i : ℕ) → i < n → last_named d i < first
unfolding named_well
below-first d n first b i l =
    ltb-true (last_named d i) first
    (every-at n (λ k. ltb (last_named d k) first) (and_right (distinct n (last_named d)) (every n (λ k. ltb (last_named d k) first)) b) i l)

module _ (d : List ℕ) where
  abbrev kind : ℕ
  kind = last_kind d

  abbrev n : ℕ
  n = last_count d

  abbrev first : ℕ
  first = last_first d

  pub bad-count : count_fits kind n ≡ false → bad_rewriting d ≡ true
  unfolding bad_rewriting
  bad-count a = rw a

  pub bad-named : count_fits kind n ≡ true → named_well d n first ≡ false → bad_rewriting d ≡ true
  unfolding bad_rewriting named_well
  bad-named a b = rw (a, b)

  pub bad-first : count_fits kind n ≡ true → named_well d n first ≡ true → ltb first (loaded d) ≡ true → bad_rewriting d ≡ true
  unfolding bad_rewriting named_well
  bad-first a b e = rw (a, b, e)

  pub bad-added : count_fits kind n ≡ true → named_well d n first ≡ true → ltb first (loaded d) ≡ false → added_well d kind n first ≡ false → bad_rewriting d ≡ true
  unfolding bad_rewriting named_well added_well merged_empty
  bad-added a b e g = rw (a, b, e, g)

  module _ (a : count_fits kind n ≡ true) (b : named_well d n first ≡ true) (e : ltb first (loaded d) ≡ false) (g : added_well d kind n first ≡ true) where
    pub bad-conceded : ltb (conceded d) (last_conceded d) ≡ true → bad_rewriting d ≡ true
    unfolding bad_rewriting named_well added_well merged_empty
    bad-conceded h = rw (a, b, e, g, h)

    pub bad-hard : ltb (conceded d) (last_conceded d) ≡ false → soft_named d n ≡ false → bad_rewriting d ≡ true
    unfolding bad_rewriting named_well added_well merged_empty soft_named
    bad-hard h k = rw (a, b, e, g, h, k)

    pub bad-weight : ltb (conceded d) (last_conceded d) ≡ false → soft_named d n ≡ true → bad_rewriting d ≡ not (weight_fits (undo_rewriting d))
    unfolding bad_rewriting named_well added_well merged_empty soft_named
    bad-weight h k = rw (a, b, e, g, h, k)

  pub named-apart : named_well d n first ≡ true → Distinct n (last_named d)
  unfolding named_well
  named-apart b = distinct_apart n (last_named d) (and_left (distinct n (last_named d)) (every n (λ i. ltb (last_named d i) first)) b)

  pub named-below : named_well d n first ≡ true → (i : ℕ) → i < n → last_named d i < first
  named-below = below-first d n first

  module _ (low : 1 ≤ kind) (high : kind ≤ 4) (a : count_fits kind n ≡ true) where
    pub few : n ≤ most_named
    unfolding most
    few = by_kind (λ k. n ≤ most k → n ≤ most_named) (λ h. omega arith) (λ h. omega arith) (λ h. omega arith) (λ h. h) kind low high (counted kind n a).1

    pub some : 2 ≤ n
    unfolding fewest
    some = by_kind (λ k. fewest k ≤ n → 2 ≤ n) (λ h. h) (λ h. h) (λ h. h) (λ h. omega arith) kind low high (counted kind n a).0

    fewer : fewer_added kind ≤ n
    unfolding fewest fewer_added
    fewer = by_kind (λ k. fewest k ≤ n → fewer_added k ≤ n) (λ h. omega arith) (λ h. omega arith) (λ h. h) (λ h. omega arith) kind low high (counted kind n a).0

    pub first_fits : added_well d kind n first ≡ true → first ≤ in_use d
    unfolding added_well
    first_fits g =
        ⊎_elim (λ t. omega (arith, eqb-true (in_use d + fewer_added kind) (first + n) t, fewer))
        (λ t. omega (arith, eqb-true (in_use d) first (and_right (eqb kind 1) (eqb (in_use d) first) t)))
        (or_cases (eqb (in_use d + fewer_added kind) (first + n)) (eqb kind 1 && eqb (in_use d) first) g)

-- what an entry that is not bad says
pub record Good (d : List ℕ) : Type 0 where
  pub count : count_fits (last_kind d) (last_count d) ≡ true
  pub named : named_well d (last_count d) (last_first d) ≡ true
  pub added : added_well d (last_kind d) (last_count d) (last_first d) ≡ true
  pub less : last_conceded d ≤ conceded d
  pub light : weight_fits (undo_rewriting d) ≡ true

pub good : (d : List ℕ) → bad_rewriting d ≡ false → Good d
unfolding bad_rewriting named_well added_well merged_empty
good d e =
    let t1 = count_fits (last_kind d) (last_count d) in
    let t2 = distinct (last_count d) (last_named d) && every (last_count d) (λ i. ltb (last_named d i) (last_first d)) in
    let t3 = ltb (last_first d) (loaded d) in
    let t4 = eqb (in_use d + fewer_added (last_kind d)) (last_first d + last_count d) || (eqb (last_kind d) 1 && eqb (in_use d) (last_first d)) in
    let t5 = ltb (conceded d) (last_conceded d) in
    let t6 = weight_fits (undo_rewriting d) in
    let softs = every (last_count d) (λ i. not (is_hard (row_on d (last_named d i)))) in
    let last = not softs || not t6 in
    let a = or-none (not t1) (not t2 || (t3 || (not t4 || (t5 || last)))) e in
    let b = or-none (not t2) (t3 || (not t4 || (t5 || last))) a.1 in
    let c = or-none t3 (not t4 || (t5 || last)) b.1 in
    let f = or-none (not t4) (t5 || last) c.1 in
    let g = or-none t5 last f.1 in
    let h = or-none (not softs) (not t6) g.1 in
    record {
      count = not-false t1 a.0;
      named = not-false t2 b.0;
      added = not-false t4 f.0;
      less = ltb-false (conceded d) (last_conceded d) g.0;
      light = not-false t6 h.1;
    }
