-- `space_run` meets its contract: past the text's end there is none, and else those at the front of what is left are counted.
use mathlib.Core.Path.{sym, ◌∙◌}
use native.Mathlib.Omega.{arith}
use borrow.Author.Rules.{rules}
use borrow.Author.Tests.{tests}
use lib.Dec.{eqb}
use lib.ListN.{length, drop}
use Rattle.std.proofs.lemmas.Iterator.{YieldsList-from_slice}
use Rattle.std.proofs.lemmas.Iterator.Consumers.{count_from_yields_List}
use Rattle.std.proofs.lemmas.Iterator.Search.{YieldsList-from_take_while}
use Rattle.std.proofs.lemmas.List.Folds.{length-prefix_len}
use Rattle.gaps_read.proofs.Spaces.{run_past, left-is, run-prefix}
use Rattle.gaps_read.proofs.space_run.Goals as goal

pub returns-in_default : goal.returns-in_default
returns-in_default c = sym (run_past c.args.s.now c.args.at _ (omega (arith, c.in_default.ensures.lookup.0)))

pub returns : goal.returns
returns c =
    let rest = drop c.args.at c.args.s.now in
    let left = c.in-Some.ensures.lookup.0.2 ∙ left-is c.args.s.now c.args.at in
    count_from_yields_List c.take_while.result _ c.count.ensures.ran
    (YieldsList-from_take_while _ (λ b. eqb b 32) (YieldsList-from_slice rest (cc)) c.take_while.ensures.closure c.take_while.ensures.done
    (λ x b q k. search (rules, tests)))
    ∙ length-prefix_len (λ b. eqb b 32) rest
    ∙ run-prefix (length c.args.s.now) c.args.s.now c.args.at (omega arith)
