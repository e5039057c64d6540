-- A number below 256, and a place that leaves room above it.
use mathlib.Core.Path.{ap}
use native.Mathlib.Omega.{arith}
use Rattle.telling.proofs.Places.{number_small}
use Rattle.telling.specs.Told.{told}
use Rattle.telling.specs.Room.{place_in}
use Rattle.telling.proofs.inner.tell.Goals as goal

pub overflow_mul-result : goal.overflow_mul-result
overflow_mul-result c =
    let e = ap place_in c.in-Err.is in
    record { fits = omega (arith, ap (λ told. told.1) c.numbered-told.ensures, c.requires, e) }

pub overflow_add-result : goal.overflow_add-result
overflow_add-result c =
    let e = ap place_in c.in-Err.is in
    let place = ap (λ told. told.1) c.numbered-told.ensures in
    let number = ap (λ told. told.0) c.numbered-told.ensures in
    record { fits = omega (arith, place, number, (number_small c.in-Err.why).1, c.requires, e) }

pub returns-in-Err : goal.returns-in-Err
returns-in-Err c =
    let e = ap told c.in-Err.is in
    omega (arith, ap (λ told. told.1) c.numbered-told.ensures, ap (λ told. told.0) c.numbered-told.ensures, e)
