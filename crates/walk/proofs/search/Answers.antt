-- `search` meets its contract: a well-formed desk is judged, and any other is refused.
use Rattle.std.specs.Prelude.{Ok}
use Prim.Native.Nat.{ℕ}
use mathlib.Core.Path.{ap, ◌∙◌}
use mathlib.Core.List.{List}
use Rattle.masks.proofs.Choice.{handed-on}
use Rattle.rules.specs.declared.Found.{Found}
use Rattle.rules.specs.Bound.{desk_why}
use Rattle.rules.specs.Walk.{walk_in, found_by, searched}
use Rattle.formed.proofs.Judging.{judged-so, judged-not}
use Rattle.walk.proofs.search.Goals as goal

pub returns-in_err-judged : goal.returns-in_err-judged
unfolding searched desk_why
returns-in_err-judged c =
    let no = judged-not c.args.desk.now _ _ _ c.judge.ensures c.ok_or.ensures.value _ c.in_err-judged.was in
    handed-on c.from_residual.result c.in_err-judged.field-0.0 c.from_residual.ensures.1 ∙ rw (no.1, no.0)

pub returns : goal.returns
unfolding searched desk_why
returns c =
    let yes = judged-so c.args.desk.now _ _ _ c.judge.ensures c.ok_or.ensures.value _ c.in_ok-judged.was in
    rw yes.0
    (ap (λ (x : Found). Ok x) (c.found_by_choice.ensures ∙ ap (λ (d : List ℕ). found_by (walk_in d c.args.choice c.args.budget)) yes.1))
