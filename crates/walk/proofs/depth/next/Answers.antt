-- `next` meets its contract: the lowest place of the complement.
use borrow.Author.Rules.{rules}
use mathlib.Core.Path.{sym, subst}
use Prim.Native.Nat.{ℕ}
use Rattle.walk.specs.Next.{Next}
use Rattle.walk.proofs.Lowest.{lowest-left}
use Rattle.walk.proofs.depth.next.Goals as goal

pub returns : goal.returns
returns c = subst (λ (v : ℕ). Next c.args.decided v) (sym c.lowest.ensures) (lowest-left c.args.decided (search rules))
