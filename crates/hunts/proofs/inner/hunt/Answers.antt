use mathlib.Core.Path.{sym, ◌∙◌}
use native.Mathlib.Omega.{arith}
use borrow.Author.Tests.{leb-false}
use Rattle.masks.proofs.Choice.{or-none}
use Rattle.rules.specs.Desk.{in_use}
use Rattle.group_laws.specs.Trails.{weights_in}
use Rattle.looking.specs.Looks.{lits_on}
use Rattle.looking.proofs.Looking.{unfound}
use Rattle.hunts.proofs.Draining.{Drained, drain-none, drain-more, drain-done, drain-left}
use Rattle.hunts.proofs.inner.hunt.Goals as goal

pub first_scan-t-requires : goal.first_scan-t-requires
first_scan-t-requires c = c.requires

pub loop-k-init : goal.loop-k-init
loop-k-init c p e = drain-none _ _ _ _ _ _ _ _ e c.first_scan-t.ensures.roomy

pub shape_of-masks-then-t-k : goal.shape_of-masks-then-t-k
shape_of-masks-then-t-k c =
    let so : Drained (lits_on c.args.desk.now) (weights_in c.args.weights.now) (in_use c.args.desk.now) c.args.p
    c.word-n.result c.loop-k.k c.loop-k.t c.loop-k.masks c.loop-k.rows = c.loop-k.invariant _ c.first_scan-t.ensures.rows_after in
    so.roomy.lent.masks ∙ sym c.requires.lent.masks

pub shape_of-rows-then-t-k : goal.shape_of-rows-then-t-k
shape_of-rows-then-t-k c =
    let so : Drained (lits_on c.args.desk.now) (weights_in c.args.weights.now) (in_use c.args.desk.now) c.args.p
    c.word-n.result c.loop-k.k c.loop-k.t c.loop-k.masks c.loop-k.rows = c.loop-k.invariant _ c.first_scan-t.ensures.rows_after in
    so.roomy.lent.rows ∙ sym c.requires.lent.rows

pub returns-then-t-k : goal.returns-then-t-k
returns-then-t-k c =
    let so : Drained (lits_on c.args.desk.now) (weights_in c.args.weights.now) (in_use c.args.desk.now) c.args.p
    c.word-n.result c.loop-k.k c.loop-k.t c.loop-k.masks c.loop-k.rows = c.loop-k.invariant _ c.first_scan-t.ensures.rows_after in
    record {
      rows_after = drain-left _ _ _ _ _ so c.if-t-k.true _ c.word-n.ensures;
      roomy = so.roomy;
    }

pub entry_scan-t-requires : goal.entry_scan-t-requires
entry_scan-t-requires c =
    let so : Drained (lits_on c.args.desk.now) (weights_in c.args.weights.now) (in_use c.args.desk.now) c.args.p
    c.word-n.result c.loop-k.k c.loop-k.t c.loop-k.masks c.loop-k.rows = c.loop-k.invariant _ c.first_scan-t.ensures.rows_after in
    let ways = or-none _ _ c.if-t-k.false in
    record {
      lying = c.requires.lying;
      roomy = so.roomy;
      k_lt_entries = (leb-false _ _ ways.1, unfound c.loop-k.t ways.0);
    }

pub loop-k-preserved : goal.loop-k-preserved
loop-k-preserved c p e = drain-more _ _ _ _ _ (c.loop-k.invariant p e) (omega arith) _ _ _ c.entry_scan-t.ensures.rows_after c.entry_scan-t.ensures.roomy_2

pub shape_of-masks : goal.shape_of-masks
shape_of-masks c =
    let so : Drained (lits_on c.args.desk.now) (weights_in c.args.weights.now) (in_use c.args.desk.now) c.args.p
    c.word-n.result c.loop-k.k c.loop-k.t c.loop-k.masks c.loop-k.rows = c.loop-k.invariant _ c.first_scan-t.ensures.rows_after in
    so.roomy.lent.masks ∙ sym c.requires.lent.masks

pub shape_of-rows : goal.shape_of-rows
shape_of-rows c =
    let so : Drained (lits_on c.args.desk.now) (weights_in c.args.weights.now) (in_use c.args.desk.now) c.args.p
    c.word-n.result c.loop-k.k c.loop-k.t c.loop-k.masks c.loop-k.rows = c.loop-k.invariant _ c.first_scan-t.ensures.rows_after in
    so.roomy.lent.rows ∙ sym c.requires.lent.rows

pub returns : goal.returns
returns c =
    let so : Drained (lits_on c.args.desk.now) (weights_in c.args.weights.now) (in_use c.args.desk.now) c.args.p
    c.word-n.result c.loop-k.k c.loop-k.t c.loop-k.masks c.loop-k.rows = c.loop-k.invariant _ c.first_scan-t.ensures.rows_after in
    record {
      rows_after = drain-done _ _ _ _ _ so (omega arith) _ c.word-n.ensures;
      roomy = so.roomy;
    }
