-- `named_kind` meets its contract: above 4 there is no kind, and below it the rows decide.
use native.Mathlib.Omega.{arith}
use borrow.Author.Tests.{le-leb, lt-leb}
use Rattle.rules.specs.Steps.{well_named}
use Rattle.fitting.proofs.named_kind.Goals as goal

pub returns-in_err-kind : goal.returns-in_err-kind
unfolding well_named
returns-in_err-kind c =
    rw (
      c.from_residual.ensures,
      le-leb 1 c.args.n (omega (arith, c.in_err-kind.ensures)),
      lt-leb c.args.n 4 (omega (arith, c.in_err-kind.ensures)),
    )
