-- `put_reading` meets its contract: `none`, or one literal for each variable.
use Rattle.readings.proofs.Cases.{reading-none, reading-some}
use Rattle.readings.proofs.inner.put_reading.Goals as goal

pub returns-in-None : goal.returns-in-None
returns-in-None c = rw (reading-none _ _ c.in-None.is) c.put_key.ensures

pub returns-in-Some : goal.returns-in-Some
returns-in-Some c =
    rw (reading-some c.args.variables c.args.best _ _ c.literals_of-lits.result c.in-Some.is c.literals_of-lits.ensures)
    c.put_lits_line.ensures
