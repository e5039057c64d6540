-- `price_at` meets its contract: what is chosen is told by the arm.
use Prim.Native.Nat.{◌≤◌, min}
use mathlib.Core.Path.{sym, ap, ◌∙◌, subst}
use lib.ListN.{length}
use Rattle.rules.specs.declared.Choice.{Choice}
use Rattle.rules.specs.Walk.{price_of}
use Rattle.walk.specs.Work.{work_by}
use Rattle.walk.proofs.depth.price_at.Goals as goal

pub price_up_to-requires : goal.price_up_to-requires
price_up_to-requires c =
    subst (λ (x : Choice). work_by x c.args.desk.words.now ≤ length c.args.work.now)
    c.in-Groups.is c.requires

pub returns-in-Units : goal.returns-in-Units
returns-in-Units c = ap (min c.args.best) (c.price_at.ensures ∙ sym (ap (λ (x : Choice). price_of x c.args.desk.words.now c.args.p) c.in-Units.is))

pub returns-in-Groups : goal.returns-in-Groups
returns-in-Groups c =
    c.price_up_to.ensures
    ∙ sym (ap (λ (x : Choice). min c.args.best (price_of x c.args.desk.words.now c.args.p)) c.in-Groups.is)
