-- `none_hard` meets its contract: `all` looks at each row named.
use Prim.Native.Nat.{ℕ, ◌+◌, ◌*◌, ◌≤◌, ◌<◌}
use mathlib.Core.Path.{◌≡◌, ap, ◌∙◌}
use mathlib.Core.Bool.{Bool, true, false, not}
use native.Mathlib.Omega.{arith}
use borrow.Author.Tests.{tests}
use lib.ListN.{length, take}
use Rattle.std.proofs.Common.{rules}
use Rattle.std.proofs.lemmas.Iterator.{cases_from_all, YieldsList-from_slice}
use Rattle.std.proofs.lemmas.Iterator.Adapters.{serves_from_places}
use Rattle.std.proofs.lemmas.List.{get_or_read}
use lib.Seq.{length-take-le, get_or-take}
use Rattle.masks.proofs.Sums.{every-from_all, every-ext}
use Rattle.rules.specs.Table.{row_words, is_hard}
use Rattle.rules.specs.Desk.{head_words, row_place, row_on}
use Rattle.rules.specs.TakeBack.{last_named}
use Rattle.desk_laws.proofs.Formed.{rows_inside}
use Rattle.last_entry.specs.Last.{soft_named}
use Rattle.last_entry.proofs.Lasts.{step-stands, whole}
use Rattle.last_entry.proofs.Bad.{below-first}
use Rattle.last_entry.proofs.inner.none_hard.Goals as goal

pub last_rows-rows-requires : goal.last_rows-rows-requires
last_rows-rows-requires c = step-stands _ c.requires.stands

pub all-requires-clause-callable : goal.all-requires-clause-callable
unfolding row_place
all-requires-clause-callable c =
    serves_from_places (YieldsList-from_slice (take c.args.n c.last_rows-rows.result) cc) (λ x q k. search (rules, tests)) (λ x k l e.
    let f = whole c.args.desk.now c.requires.stands in
    let n : k < c.args.n = omega (arith, l, length-take-le c.args.n c.last_rows-rows.result (omega (arith, c.requires.n_le_most_named))) in
    let told : x.now ≡ last_named c.args.desk.now k = get_or_read (take c.args.n c.last_rows-rows.result) k x.now l e 0
    ∙ get_or-take c.args.n c.last_rows-rows.result k 0 n ∙ c.last_rows-rows.ensures k (omega (arith, c.requires.n_le_most_named)) in
    let under = below-first c.args.desk.now c.args.n c.args.first c.requires.first_value k n in
    let inside : head_words + row_words * (x.now + 1) ≤ length c.args.desk.now =
    omega (arith, told, rows_inside f (last_named c.args.desk.now k + 1) (omega (arith, under, c.requires.first_bound, f.fitting))) in
    search rules)

pub returns : goal.returns
unfolding soft_named
returns c =
    let p : ℕ → Bool = λ i. not (is_hard (row_on c.args.desk.now i)) in
    every-from_all c.all.result (take c.args.n c.last_rows-rows.result) p
    (cases_from_all _ _ _ (λ i. p i ≡ true) (λ i. p i ≡ false) c.all.ensures.ran (YieldsList-from_slice (take c.args.n c.last_rows-rows.result) cc) (λ x q k. search (rules, tests)) (λ x q k. search (rules, tests)))
    ∙ rw (length-take-le c.args.n c.last_rows-rows.result (omega (arith, c.requires.n_le_most_named)))
    (every-ext c.args.n (λ i l. ap p (get_or-take c.args.n c.last_rows-rows.result i 0 l ∙ c.last_rows-rows.ensures i (omega (arith, c.requires.n_le_most_named)))))
