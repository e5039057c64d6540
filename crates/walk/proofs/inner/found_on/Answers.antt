-- `found_on` meets its contract: what the calls leave, one behind the other, is the walk's definition.
use mathlib.Core.Path.{◌≡◌, ap, ap₂, ◌∙◌}
use mathlib.Core.List.{List}
use Prim.Native.Nat.{ℕ}
use Rattle.rules.specs.declared.Choice.{Choice}
use Rattle.rules.specs.declared.Part.{Part}
use Rattle.rules.specs.declared.Walked.{Walked}
use Rattle.rules.specs.Desk.{variables, decisions}
use Rattle.rules.specs.Walk.{walk, undecided, at_start, walk_of, price_of, tried_first, walk_in, found_by}
use Rattle.walk.proofs.inner.found_on.Goals as goal

walked : (d : List ℕ) (choice : Choice) (budget : ℕ) (start end : Walked) (p : Part) → start ≡ at_start d → p ≡ decisions d
    → end ≡ walk (price_of choice d) tried_first budget (undecided (variables d) p.decided) p start → end ≡ walk_in d choice budget
unfolding walk_of decisions
walked d choice budget start end p s e w =
    w ∙ ap₂ (λ (q : Part) (x : Walked). walk (price_of choice d) tried_first budget (undecided (variables d) q.decided) q x) e s

pub returns : goal.returns
returns c =
    c.found_by.ensures
    ∙ ap found_by
    (walked c.args.desk.words.now c.args.choice c.args.budget _ _ _ c.at_start-start.ensures c.decisions-p.ensures c.walk-end.ensures)
