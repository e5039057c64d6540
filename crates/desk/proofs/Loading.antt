-- What a load that is not refused has shown: the table lies within the desk's rows, and the desk within the lent words.
use Rattle.std.specs.Prelude.{Ok}
use Prim.Native.Nat.{ℕ, ◌*◌, ◌≤◌}
use mathlib.Core.Path.{◌≡◌}
use mathlib.Core.List.{List}
use mathlib.Core.Bool.{◌||◌}
use native.Mathlib.Omega.{arith}
use lib.ListN.{length}
use lib.Dec.{ltb}
use borrow.Author.Tests.{ltb-false}
use Rattle.masks.proofs.Choice.{or_left, or_right}
use Rattle.literals.specs.Literal.{most_variables}
use Rattle.rules.specs.declared.Refusal.TheVariants.{TooManyVariables, BadTable, BadCapacity, NoRoom, SumTooLarge}
use Rattle.rules.specs.Refusals.{refuse, in_order}
use Rattle.rules.specs.Table.{row_words, row_count, bad_table, rows_why, sum_too_large}
use Rattle.rules.specs.Desk.{most_capacity, desk_words, load_why}
use Rattle.rules.proofs.Judging.{refuse-fine}
use Rattle.rules.proofs.Admissible.{whole-rows}

pub load-room : (n : ℕ) (t : List ℕ) (c : ℕ) (d : List ℕ) → load_why n t c d ≡ Ok tt
    → (c ≤ most_capacity) × (length t ≤ row_words * c) × (desk_words c ≤ length d)
unfolding load_why
load-room n t c d e =
    let last = in_order (rows_why n t (row_count t)) (refuse (sum_too_large t) SumTooLarge (Ok tt)) in
    let room = refuse (ltb (length d) (desk_words c)) NoRoom last in
    let bad_c = ltb c (row_count t) || ltb most_capacity c in
    let e1 = (refuse-fine (ltb most_variables n) TooManyVariables (refuse (bad_table t) BadTable (refuse bad_c BadCapacity room)) e).1 in
    let e2 = refuse-fine (bad_table t) BadTable (refuse bad_c BadCapacity room) e1 in
    let e3 = refuse-fine bad_c BadCapacity room e2.1 in
    let e4 = refuse-fine (ltb (length d) (desk_words c)) NoRoom last e3.1 in
    let few = ltb-false c (row_count t) (or_left (ltb c (row_count t)) (ltb most_capacity c) e3.0) in
    let whole = (whole-rows t e2.0).0 in (
      ltb-false most_capacity c (or_right (ltb c (row_count t)) (ltb most_capacity c) e3.0),
      omega arith,
      ltb-false (length d) (desk_words c) e4.0,
    )
