-- `put_found` meets its contract: the lines, one behind the other.
use native.Mathlib.Omega.{arith}
use Rattle.text_laws.proofs.Pieces.{line-length}
use Rattle.pieces_written.proofs.Storing.{stored-both}
use Rattle.readings.proofs.Cases.{reading-length}
use Rattle.answer_lines.specs.Keys.{nodes_key}
use Rattle.answer_lines.proofs.Written.{found-is, status-length, weight-length}
use Rattle.answer_lines.proofs.inner.put_found.Goals as goal

pub put_weight-third-requires : goal.put_weight-third-requires
put_weight-third-requires c = omega (arith, c.put_status-second.ensures.place, status-length c.args.found.status)

pub put_number_line-fourth-requires : goal.put_number_line-fourth-requires
put_number_line-fourth-requires c =
    let status = status-length c.args.found.status in
    let weight = weight-length c.args.found.best in
    omega (arith, c.put_weight-third.ensures.place, c.put_status-second.ensures.place)

pub put_reading-fifth-requires : goal.put_reading-fifth-requires
put_reading-fifth-requires c =
    let status = status-length c.args.found.status in
    let weight = weight-length c.args.found.best in
    let nodes = line-length nodes_key c.args.found.nodes in
    record {
      most_reading_line_bound = omega (arith, c.put_number_line-fourth.ensures.place, c.put_weight-third.ensures.place, c.put_status-second.ensures.place);
      variables_le_most_variables = c.requires;
    }

pub put_losses-requires : goal.put_losses-requires
put_losses-requires c =
    let status = status-length c.args.found.status in
    let weight = weight-length c.args.found.best in
    let nodes = line-length nodes_key c.args.found.nodes in
    let reading = reading-length c.args.variables c.args.found.best c.requires in
    let two = c.put_weight-third.ensures.place in
    omega (arith, c.put_reading-fifth.ensures.place, c.put_number_line-fourth.ensures.place, two, c.put_status-second.ensures.place)

pub returns : goal.returns
returns c =
    rw (found-is c.args.variables c.args.root c.args.found)
    (stored-both c.put_status-second.ensures
    (stored-both c.put_weight-third.ensures
    (stored-both c.put_number_line-fourth.ensures
    (stored-both c.put_reading-fifth.ensures c.put_losses.ensures))))
