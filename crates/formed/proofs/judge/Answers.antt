-- `judge` meets its contract: a well-formed desk can be read.
use mathlib.Core.Path.{sym, ◌∙◌}
use Rattle.desk_laws.proofs.Readable.{readable}
use Rattle.formed.proofs.judge.Goals as goal

pub invariant_of-result : goal.invariant_of-result
invariant_of-result c = record { readable = readable c.args.desk.now (sym c.well_formed-2.ensures ∙ c.if-well_formed.true) }
