-- `put_found` meets its contract: the lines, one behind the other.
use native.Mathlib.Omega.{arith}
use Rattle.text_laws.proofs.Pieces.{line-length}
use Rattle.pieces_written.proofs.Storing.{stored-both}
use Rattle.wcnf_lines.specs.Keys.{nodes_key}
use Rattle.wcnf_lines.proofs.Written.{found-is, weight-length, statement-length}
use Rattle.wcnf_lines.proofs.inner.put_found.Goals as goal

pub put_weight-third-requires : goal.put_weight-third-requires
put_weight-third-requires c = omega (arith, c.put_number_line-second.ensures.place, line-length nodes_key c.args.found.nodes)

pub put_statement-fourth-requires : goal.put_statement-fourth-requires
put_statement-fourth-requires c =
    let nodes = line-length nodes_key c.args.found.nodes in
    omega (arith, c.put_weight-third.ensures.place, c.put_number_line-second.ensures.place, weight-length c.args.found.best)

pub put_values-requires : goal.put_values-requires
put_values-requires c =
    let nodes = line-length nodes_key c.args.found.nodes in
    let weight = weight-length c.args.found.best in
    let statement = statement-length c.args.found.status in
    (omega (arith, c.put_statement-fourth.ensures.place, c.put_weight-third.ensures.place, c.put_number_line-second.ensures.place), c.requires)

pub returns : goal.returns
returns c =
    rw (found-is c.args.variables c.args.found)
    (stored-both c.put_number_line-second.ensures
    (stored-both c.put_weight-third.ensures
    (stored-both c.put_statement-fourth.ensures c.put_values.ensures)))
