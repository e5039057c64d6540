-- `lay` meets its contract: each kind lays what it gives, and of these only a merge's rest can be empty.
use native.Mathlib.Omega.{arith}
use Rattle.remnants.proofs.Counts.{two-named, four-named}
use Rattle.laying.specs.Room.{Fitting}
use Rattle.laying.proofs.Fills.{room-merge, room-shift, room-chain, room-fork, laid-shift, laid-chain, laid-fork}
use Rattle.laying.proofs.inner.lay.Goals as goal

pub lay_merge-requires : goal.lay_merge-requires
lay_merge-requires c =
    record {
      behind = c.requires.behind;
      in_bounds = two-named _ _ c.requires.count;
      first_in_bounds = room-merge _ _ _ (rw c.in-Merge.is at c.requires);
    }

pub returns-in-Merge : goal.returns-in-Merge
returns-in-Merge c = rw c.in-Merge.is c.lay_merge.ensures

pub lay_shift-requires : goal.lay_shift-requires
lay_shift-requires c =
    record {
      behind = c.requires.behind;
      in_bounds = two-named _ _ c.requires.count;
      first_in_bounds = room-shift _ _ _ (rw c.in-Shift.is at c.requires);
    }

pub returns-in-Shift : goal.returns-in-Shift
returns-in-Shift c = rw c.in-Shift.is (laid-shift _ _ _ _ (rw c.in-Shift.is at c.requires) c.lay_shift.ensures)

pub overflow_sub-named : goal.overflow_sub-named
overflow_sub-named c = two-named _ _ c.requires.count

pub lay_back-requires : goal.lay_back-requires
lay_back-requires c =
    record {
      behind = c.requires.behind;
      k_in_bounds = omega (arith, two-named _ _ c.requires.count);
      k_in_bounds_2 = room-chain _ _ _ (rw c.in-Chain.is at c.requires);
    }

pub returns-in-Chain : goal.returns-in-Chain
returns-in-Chain c = rw c.in-Chain.is (laid-chain _ _ _ _ (rw c.in-Chain.is at c.requires) c.lay_back.ensures)

pub lay_fork-requires : goal.lay_fork-requires
lay_fork-requires c =
    let here : Fitting c.args.desk.now 4 c.args.named.now c.args.first = rw c.in-Fork.is at c.requires in
    record {
      behind = here.behind;
      in_bounds = four-named _ here.count;
      named_in_bounds = room-fork _ _ _ here;
    }

pub returns-in-Fork : goal.returns-in-Fork
returns-in-Fork c = rw c.in-Fork.is (laid-fork _ _ _ _ (rw c.in-Fork.is at c.requires) c.lay_fork.ensures)
