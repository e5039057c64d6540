-- `hunt_once` meets its contract: a conflict gives a group, whose cost is taken, and no conflict changes nothing.
use mathlib.Core.Path.{◌∙◌}
use Rattle.groups.proofs.Found.{nothing-found, traced, standing, group-taken}
use Rattle.groups.proofs.inner.hunt_once.Goals as goal

pub hunt-t-requires : goal.hunt-t-requires
hunt-t-requires c =
    record {
      lying = c.requires.lying;
      lent = c.requires.lent;
    }

pub gather-g-requires : goal.gather-g-requires
gather-g-requires c =
    record {
      lying = c.requires.lying;
      lent = (c.hunt-t.ensures.roomy.lent, c.requires.grouped);
      traced = traced c.args.desk.now c.args.p c.args.weights.now _ _ _ c.hunt-t.ensures.rows_after c.hunt-t.ensures.roomy c.if-t-ne0.true;
    }

pub take-requires : goal.take-requires
take-requires c =
    standing c.args.desk.now c.args.p c.args.weights.now _ _ _ c.hunt-t.ensures.rows_after c.hunt-t.ensures.roomy c.if-t-ne0.true _ _ c.gather-g.ensures.group_after
    c.gather-g.ensures.size_le_group_words
    (c.gather-g.auto.group ∙ c.requires.grouped) c.requires.lying.weights

pub returns-then-t-ne0 : goal.returns-then-t-ne0
returns-then-t-ne0 c =
    group-taken c.args.desk.now c.args.p c.args.weights.now _ _ _ c.hunt-t.ensures.rows_after c.hunt-t.ensures.roomy c.if-t-ne0.true _ _
    c.gather-g.ensures.group_after _ c.take.ensures

pub returns : goal.returns
returns c = nothing-found c.args.desk.now c.args.p c.args.weights.now _ _ _ c.hunt-t.ensures.rows_after c.hunt-t.ensures.roomy c.if-t-ne0.false
