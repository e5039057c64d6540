use mathlib.Core.Path.{refl, sym, ◌∙◌}
use native.Mathlib.Omega.{arith}
use Rattle.hunts.proofs.Scanning.{scan-none, scan-more, scan-left, scan-done, first-scan, hunt-start}
use Rattle.hunts.proofs.inner.first_scan.Goals as goal

pub loop-i-init : goal.loop-i-init
loop-i-init c =
    scan-none _ _ _ _ _ _ c.args.masks.now c.args.rows.now refl (hunt-start c.args.p c.args.masks.now c.args.rows.now)
    (record { short = omega arith; lent = c.requires.lent; single = λ k less. omega arith })

pub first_step-t-requires : goal.first_step-t-requires
first_step-t-requires c =
    record {
      due = record {
        row = omega (arith, c.requires.lying.rows);
        weight = omega (arith, c.requires.lying.weights);
        running = c.loop-i.invariant.running;
      };
      roomy = c.loop-i.invariant.roomy;
    }

pub shape_of-masks-then-t-ne0 : goal.shape_of-masks-then-t-ne0
shape_of-masks-then-t-ne0 c =
    c.first_step-t.ensures.roomy_2.lent.masks
    ∙ sym c.requires.lent.masks

pub shape_of-rows-then-t-ne0 : goal.shape_of-rows-then-t-ne0
shape_of-rows-then-t-ne0 c =
    c.first_step-t.ensures.roomy_2.lent.rows
    ∙ sym c.requires.lent.rows

pub returns-then-t-ne0 : goal.returns-then-t-ne0
returns-then-t-ne0 c =
    record {
      rows_after = first-scan _ _ _ _ _ c.word-n.ensures c.args.p
          (scan-left _ _ _ _ _ c.loop-i.invariant (omega arith) _ _ _ c.first_step-t.ensures.rows_after c.if-t-ne0.true c.first_step-t.ensures.roomy_2);
      roomy = c.first_step-t.ensures.roomy_2;
    }

pub loop-i-preserved : goal.loop-i-preserved
loop-i-preserved c = scan-more _ _ _ _ _ c.loop-i.invariant (omega arith) _ _ _ c.first_step-t.ensures.rows_after c.if-t-ne0.false c.first_step-t.ensures.roomy_2

pub shape_of-masks : goal.shape_of-masks
shape_of-masks c = c.loop-i.invariant.roomy.lent.masks ∙ sym c.requires.lent.masks

pub shape_of-rows : goal.shape_of-rows
shape_of-rows c = c.loop-i.invariant.roomy.lent.rows ∙ sym c.requires.lent.rows

pub returns : goal.returns
returns c =
    record {
      rows_after = first-scan _ _ _ _ _ c.word-n.ensures c.args.p (scan-done _ _ _ _ _ c.loop-i.invariant (omega arith));
      roomy = c.loop-i.invariant.roomy;
    }
