use mathlib.Core.Path.{refl, sym, ◌∙◌}
use native.Mathlib.Omega.{arith}
use Rattle.hunts.proofs.Scanning.{scan-none, scan-more, scan-left, scan-done, upto_all}
use Rattle.hunts.proofs.inner.literal_scan.Goals as goal

pub loop-i-init : goal.loop-i-init
loop-i-init c = scan-none _ _ _ _ _ c.args.start c.args.masks.now c.args.rows.now c.requires.found_value refl c.requires.roomy

pub entry_step-t-requires : goal.entry_step-t-requires
entry_step-t-requires c =
    record {
      due = record {
        row = omega (arith, c.requires.lying.rows);
        weight = omega (arith, c.requires.lying.weights);
        running = c.loop-i.invariant.running;
      };
      roomy = c.loop-i.invariant.roomy;
    }

pub shape_of-masks-then-t-ne0 : goal.shape_of-masks-then-t-ne0
shape_of-masks-then-t-ne0 c =
    c.entry_step-t.ensures.roomy_2.lent.masks
    ∙ sym c.requires.roomy.lent.masks

pub shape_of-rows-then-t-ne0 : goal.shape_of-rows-then-t-ne0
shape_of-rows-then-t-ne0 c =
    c.entry_step-t.ensures.roomy_2.lent.rows
    ∙ sym c.requires.roomy.lent.rows

pub returns-then-t-ne0 : goal.returns-then-t-ne0
returns-then-t-ne0 c =
    record {
      rows_after = upto_all _ _ _ _ _ c.word-in_use.ensures _
          (scan-left _ _ _ _ _ c.loop-i.invariant (omega arith) _ _ _ c.entry_step-t.ensures.rows_after c.if-t-ne0.true c.entry_step-t.ensures.roomy_2);
      roomy_2 = c.entry_step-t.ensures.roomy_2;
    }

pub loop-i-preserved : goal.loop-i-preserved
loop-i-preserved c = scan-more _ _ _ _ _ c.loop-i.invariant (omega arith) _ _ _ c.entry_step-t.ensures.rows_after c.if-t-ne0.false c.entry_step-t.ensures.roomy_2

pub shape_of-masks : goal.shape_of-masks
shape_of-masks c = c.loop-i.invariant.roomy.lent.masks ∙ sym c.requires.roomy.lent.masks

pub shape_of-rows : goal.shape_of-rows
shape_of-rows c = c.loop-i.invariant.roomy.lent.rows ∙ sym c.requires.roomy.lent.rows

pub returns : goal.returns
returns c =
    record {
      rows_after = upto_all _ _ _ _ _ c.word-in_use.ensures _ (scan-done _ _ _ _ _ c.loop-i.invariant (omega arith));
      roomy_2 = c.loop-i.invariant.roomy;
    }
