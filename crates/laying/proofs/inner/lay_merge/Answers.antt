-- `lay_merge` meets its contract: an empty rest is not stored.
use mathlib.Core.Path.{sym, ap, ◌∙◌}
use Rattle.rules.specs.Desk.{set_row}
use Rattle.rules.specs.Rewrite.{gives, given}
use Rattle.rules.specs.Steps.{stored}
use Rattle.laying.proofs.Laying.{laid_none, laid_one}
use Rattle.laying.proofs.inner.lay_merge.Goals as goal

pub returns-then-is_empty : goal.returns-then-is_empty
unfolding given gives stored
returns-then-is_empty c =
    rw (← c.rest-rest.ensures, sym c.is_empty.ensures ∙ c.if-is_empty.true)
    (sym (laid_none c.args.desk.now c.args.first c.args.w))

pub returns : goal.returns
unfolding given gives stored
returns c =
    rw (← c.rest-rest.ensures, sym c.is_empty.ensures ∙ c.if-is_empty.false)
    (c.set_row.ensures
    ∙ ap (set_row c.args.desk.now c.args.first) c.new.ensures
    ∙ sym (laid_one c.args.desk.now c.args.first c.args.w c.rest-rest.result))
