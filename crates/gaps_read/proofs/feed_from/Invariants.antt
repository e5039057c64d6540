-- `feed_from` meets its contract: from each place passed the line ends where it does from the first, and none is passed behind the text's end.
use Prim.Native.Nat.{◌-◌, ◌≤◌, max}
use mathlib.Core.Path.{◌≡◌}
use lib.ListN.{length}
use Rattle.rules.specs.WcnfReader.{feed_from}
use Rattle.gaps_read.proofs.feed_from.Given as goal

abbrev pub invariant-loop-at : goal.invariant-loop-at
invariant-loop-at l = (feed_from (length l.s - l.at) l.s l.at ≡ feed_from (length l.s - l.from) l.s l.from) × (l.at ≤ max l.from (length l.s))
