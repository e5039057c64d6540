-- A number below 256, and a place that leaves room above it, or the last that does.
use mathlib.Core.Path.{ap}
use native.Mathlib.Omega.{arith}
use Rattle.telling.proofs.Places.{number_small}
use Rattle.telling.specs.Told.{told_near}
use Rattle.telling.proofs.tell_near.Goals as goal

pub overflow_add-result : goal.overflow_add-result
overflow_add-result c =
    record {
      fits = omega (arith, c.if-told-lt-MOST_PLACE.true, ap (λ told. told.0) c.numbered-told.ensures, (number_small c.in-Err.why).1);
    }

pub overflow_add-result-else-told-lt-MOST_PLACE : goal.overflow_add-result-else-told-lt-MOST_PLACE
overflow_add-result-else-told-lt-MOST_PLACE c = record { fits = omega (arith, ap (λ told. told.0) c.numbered-told.ensures, (number_small c.in-Err.why).1) }

pub returns-then-told-lt-MOST_PLACE : goal.returns-then-told-lt-MOST_PLACE
returns-then-told-lt-MOST_PLACE c =
    let e = ap told_near c.in-Err.is in
    omega (arith, c.if-told-lt-MOST_PLACE.true, ap (λ told. told.1) c.numbered-told.ensures, ap (λ told. told.0) c.numbered-told.ensures, e)

pub returns-else-told-lt-MOST_PLACE : goal.returns-else-told-lt-MOST_PLACE
returns-else-told-lt-MOST_PLACE c =
    let e = ap told_near c.in-Err.is in
    omega (arith, c.if-told-lt-MOST_PLACE.false, ap (λ told. told.1) c.numbered-told.ensures, ap (λ told. told.0) c.numbered-told.ensures, e)
