use Prim.Native.Nat.{◌+◌}
use mathlib.Core.Path.{◌≡◌, sym, ap, ◌∙◌}
use native.Mathlib.Omega.{arith}
use Rattle.literals.specs.Lits.{is_one, negated_lits}
use Rattle.rules.specs.Steps.{remnant_of}
use Rattle.rules.specs.Rewrite as R
use Rattle.remnants.specs.Rows.{link_of}
use Rattle.remnants.proofs.Chains.{lit-first, lit-more, links-first, links-more}
use Rattle.remnants.proofs.inner.Naming.follow.Goals as goal

pub loop-i-init : goal.loop-i-init
loop-i-init c = (c.remnant-lit.ensures ∙ sym (lit-first _), c.is_one-fits.ensures ∙ ap is_one c.remnant-lit.ensures ∙ sym (links-first _))

pub loop-i-preserved : goal.loop-i-preserved
loop-i-preserved c =
    let f = remnant_of c.args.self.now.desk.now c.args.self.now.named.now in
    let n = c.negated.ensures ∙ ap negated_lits c.loop-i.invariant.0 in
    let m = c.negated-in-loop-i.ensures ∙ ap negated_lits c.loop-i.invariant.0 in
    let next : c.less-next.result ≡ R.lit f (c.loop-i.i + 1) =
    c.less-next.ensures ∙ rw (c.remnant-r.ensures, n) (sym (lit-more f c.loop-i.i)) in
    (next, rw (c.loop-i.invariant.1, c.shows-fits.ensures, c.remnant-r.ensures, m, next) (sym (links-more f c.loop-i.i)))

pub returns : goal.returns
unfolding link_of
returns c =
    let f = remnant_of c.args.self.now.desk.now c.args.self.now.named.now in
    let e : c.loop-i.i ≡ c.args.k = omega arith in
    rw (c.loop-i.invariant.0, c.loop-i.invariant.1, e)
