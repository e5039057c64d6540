use Prim.Native.Nat.{◌-◌}
use mathlib.Core.Path.{refl, sym, ◌∙◌}
use native.Mathlib.Omega.{arith}
use lib.ListN.{get_or, length-set}
use Rattle.gathering.proofs.Joining.{conflict-first, gather-next, gather-done, gather-all}
use Rattle.gathering.proofs.inner.gather.Goals as goal

pub row_on-there-requires : goal.row_on-there-requires
row_on-there-requires c = omega (arith, c.requires.lying.rows, c.requires.traced.conflict)

pub offset_bounds-weights-c : goal.offset_bounds-weights-c
offset_bounds-weights-c c = omega (arith, c.requires.lying.weights, c.requires.traced.conflict)

pub bounds-weights-c : goal.bounds-weights-c
bounds-weights-c c = omega (arith, c.requires.lying.weights, c.requires.traced.conflict)

pub bounds-group-0 : goal.bounds-group-0
bounds-group-0 c = omega (arith, c.requires.lent.1)

pub loop-k-init : goal.loop-k-init
loop-k-init c = (omega arith, simp length-set c.requires.lent.1, refl)

-- entry k - 1 is there, and its row in use
pub offset_bounds-masks-k : goal.offset_bounds-masks-k
offset_bounds-masks-k c = omega (arith, c.requires.traced.entries)

pub bounds-masks-k : goal.bounds-masks-k
bounds-masks-k c = omega (arith, c.requires.traced.entries, c.requires.lent.0.masks)

pub offset_bounds-rows-k : goal.offset_bounds-rows-k
offset_bounds-rows-k c = omega (arith, c.requires.traced.entries)

pub bounds-rows-k : goal.bounds-rows-k
bounds-rows-k c = omega (arith, c.requires.traced.entries, c.requires.lent.0.rows)

pub join-g-requires : goal.join-g-requires
join-g-requires c =
    let used = c.requires.traced.each (c.loop-k.k - 1) (omega (arith)) in
    record {
      row = omega (arith, c.requires.lying.rows, used);
      weight = omega (arith, c.requires.lying.weights, used);
      room = omega (arith, c.requires.traced.entries, c.loop-k.invariant.0, c.loop-k.invariant.1);
    }

pub loop-k-preserved : goal.loop-k-preserved
loop-k-preserved c = (
  omega (arith, c.loop-k.invariant.0, c.join-g.ensures.size_bound),
  c.join-g.auto.group ∙ c.loop-k.invariant.1,
  gather-next c.args.desk.now c.args.weights.now c.args.p (λ j. get_or c.args.masks.now j 0) (λ j. get_or c.args.rows.now j 0)
      c.loop-k.k _ _
      c.loop-k.invariant.2 (omega arith) _ c.join-g.ensures.group_after,
)

pub shape_of-group : goal.shape_of-group
shape_of-group c = c.loop-k.invariant.1 ∙ sym c.requires.lent.1

pub returns : goal.returns
returns c =
    record {
      group_after = gather-done c.args.desk.now c.args.weights.now c.args.p (λ j. get_or c.args.masks.now j 0) (λ j. get_or c.args.rows.now j 0) c.loop-k.k _ _ c.loop-k.invariant.2 (omega arith)
          ∙ gather-all c.args.desk.now c.args.weights.now c.args.p c.args.t c.args.masks.now c.args.rows.now _
          (conflict-first c.args.desk.now c.args.weights.now c.args.p c.args.t.conflict c.args.group.now (omega (arith, c.requires.lent.1)) _
          c.row_on-there.ensures _
          c.remnant-rest.ensures);
      size_le_group_words = omega (arith, c.loop-k.invariant.0, c.requires.traced.entries);
    }
