-- What it is told has room for its place: it is that of a table that is written.
use mathlib.Core.Path.{sym, ap, ◌∙◌}
use Rattle.telling.proofs.Places.{as-small, wcnf-written-small}
use Rattle.telling.specs.Told.{by_written}
use Rattle.c_wcnf.proofs.olikumpasho_write_wcnf.Goals as goal

pub tell-requires : goal.tell-requires
tell-requires c = as-small (sym (ap by_written (sym c.write_wcnf.ensures.answer ∙ c.in-Err.is))) (wcnf-written-small _ _ _)
