-- `feed_from` meets its contract: a place that ends the line is the one, and one that does not is passed.
use Prim.Native.Nat.{◌≤◌, max}
use mathlib.Core.Path.{◌≡◌, refl, ◌∙◌}
use native.Mathlib.Omega.{arith}
use lib.ListN.{length}
use Rattle.std.proofs.Math.Nat.{le-max_left, le-max_right, max-le}
use Rattle.text_laws.proofs.Matched.{matched}
use Rattle.gaps_read.proofs.Spaces.{feed-here, feed-on, feed-none}
use Rattle.gaps_read.proofs.feed_from.Goals as goal

pub loop-at-init : goal.loop-at-init
loop-at-init c = (refl, le-max_left c.args.from (length c.args.s.now))

pub returns-then-s-at-eq10 : goal.returns-then-s-at-eq10
returns-then-s-at-eq10 c = matched (feed-here c.args.s.now c.loop-at.at (omega arith) c.if-s-at-eq10.true) c.loop-at.invariant.0

pub loop-at-preserved : goal.loop-at-preserved
loop-at-preserved c = (
  matched (feed-on c.args.s.now c.loop-at.at (omega arith) c.if-s-at-eq10.false) c.loop-at.invariant.0,
  omega (arith, le-max_right c.args.from (length c.args.s.now)),
)

pub returns : goal.returns
returns c =
    let passed : max c.args.from (length c.args.s.now) ≤ c.loop-at.at = max-le (omega arith) (omega arith) in
    let there : c.max.result ≡ c.loop-at.at = omega (arith, c.loop-at.invariant.1, passed) in
    there ∙ matched (feed-none c.args.s.now c.loop-at.at (omega arith)) c.loop-at.invariant.0
