-- `all_open` meets its contract: `all` looks at each row named.
use Prim.Native.Nat.{ℕ, ◌+◌, ◌*◌, ◌≤◌}
use mathlib.Core.Path.{◌≡◌, refl, ◌∙◌}
use mathlib.Core.List.{List}
use mathlib.Core.Bool.{Bool, true, false, not, ◌||◌, ◌&&◌}
use native.Mathlib.Omega.{arith}
use borrow.Author.Tests.{tests}
use lib.ListN.{length, get_or}
use lib.Dec.{eqb}
use Rattle.std.proofs.Common.{rules}
use Rattle.std.proofs.lemmas.Iterator.{cases_from_all, YieldsList-from_slice}
use Rattle.std.proofs.lemmas.Iterator.Adapters.{serves_from_places}
use Rattle.std.proofs.lemmas.List.{get_or_read}
use Rattle.rules.specs.declared.Row.{Row}
use Rattle.masks.proofs.Sums.{every-from_all, every-ext}
use Rattle.rules.specs.Table.{row_words, is_hard}
use Rattle.rules.specs.Desk.{head_words, row_on, decisions, satisfied, spent}
use Rattle.fitting.proofs.all_open.Goals as goal

-- of a row that is not hard it is the same whether spent looks at that
once-hard : (h w s : Bool) → not (h || (w || s)) ≡ not (h || ((w && not h) || s))
once-hard true w s = refl
once-hard false true s = refl
once-hard false false s = refl

-- row i of the desk is open, as the code asks it
abbrev open_row : List ℕ → ℕ → Bool
open_row desk i =
    let row = row_on desk i in
    not (is_hard row || (eqb row.weight 0 || satisfied (decisions desk) row.lits))

pub bounds-desk-5 : goal.bounds-desk-5
bounds-desk-5 c = omega (arith, c.args.rows.now.on_desk.head)

pub bounds-desk-6 : goal.bounds-desk-6
bounds-desk-6 c = omega (arith, c.args.rows.now.on_desk.head)

pub all-requires-clause-callable : goal.all-requires-clause-callable
all-requires-clause-callable c =
    serves_from_places (YieldsList-from_slice c.args.rows.now.named.now cc) (λ x q k. search (rules, tests)) (λ x k l e.
    let inside : head_words + row_words * (x.now + 1) ≤ length c.args.rows.now.desk.now = rw (get_or_read c.args.rows.now.named.now k x.now l e 0) (c.args.rows.now.on_desk.inside k l) in
    search rules)

pub returns : goal.returns
unfolding spent decisions
returns c =
    let p = open_row c.args.rows.now.desk.now in
    let row : ℕ → Row = λ i. row_on c.args.rows.now.desk.now (get_or c.args.rows.now.named.now i 0) in
    every-from_all c.all.result c.args.rows.now.named.now p
    (cases_from_all _ _ _ (λ i. p i ≡ true) (λ i. p i ≡ false) c.all.ensures.ran (YieldsList-from_slice c.args.rows.now.named.now cc) (λ x q k. search (rules, tests)) (λ x q k. search (rules, tests)))
    ∙ every-ext (length c.args.rows.now.named.now) (λ i l. once-hard (is_hard (row i)) (eqb (row i).weight 0) (satisfied (decisions c.args.rows.now.desk.now) (row i).lits))
