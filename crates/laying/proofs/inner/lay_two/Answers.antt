-- `lay_two` meets its contract: two rows stored, one behind the other.
use mathlib.Core.Path.{sym, ◌∙◌}
use Rattle.laying.proofs.Laying.{laid-pair}
use Rattle.laying.proofs.inner.lay_two.Goals as goal

pub returns : goal.returns
returns c =
    c.set_row-2.ensures
    ∙ rw (c.new-2.ensures, c.set_row.ensures, c.new.ensures)
    (sym (laid-pair c.args.desk.now c.args.at c.args.w c.args.one c.args.other))
