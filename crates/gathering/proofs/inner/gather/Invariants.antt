-- `gather` meets its contract: what is gathered so far, and then the entries below k, is what all entries make of the conflict row.
use Prim.Native.Nat.{◌+◌, ◌≤◌}
use mathlib.Core.Path.{◌≡◌}
use lib.ListN.{length, get_or}
use Rattle.rules.specs.Groups.{gathered}
use Rattle.group_laws.specs.Trails.{trail_of, weights_in}
use Rattle.looking.specs.Looks.{lits_on}
use Rattle.gathering.specs.Gathered.{group_in, group_words}
use Rattle.gathering.proofs.inner.gather.Given as goal

abbrev pub invariant-loop-k : goal.invariant-loop-k
invariant-loop-k l =
    (l.g.size + l.k ≤ l.fn.t.entries + 1) × (length l.group ≡ group_words)
    × (gathered (lits_on l.desk) (weights_in l.weights) l.p (trail_of (λ j. get_or l.masks j 0) (λ j. get_or l.rows j 0) l.k) (group_in l.g l.group)
    ≡ gathered (lits_on l.desk) (weights_in l.weights) l.p (trail_of (λ j. get_or l.masks j 0) (λ j. get_or l.rows j 0) l.fn.t.entries) (group_in l.initial.g l.initial.group))
