use Prim.Native.Nat.{ℕ, ◌+◌}
use mathlib.Core.Path.{◌≡◌, refl, sym, ap, ◌∙◌}
use native.Mathlib.Omega.{arith}
use lib.ListN.{length}
use Rattle.literals.specs.declared.Lits.{Lits}
use Rattle.literals.specs.Lits.{negated_lits, together}
use Rattle.rules.specs.Table.{new_row}
use Rattle.rules.specs.Rewrite.{compensating, laid}
use Rattle.rules.specs.Steps.{remnant_of}
use Rattle.rules.specs.Rewrite as R
use Rattle.desk_laws.proofs.Stores.{length-set-row}
use Rattle.remnants.proofs.Chains.{lit-first, lit-more, compensating-none}
use Rattle.laying.proofs.Laying.{laid_none, lies-still, remnant-yet, turn-laid}
use Rattle.laying.proofs.inner.lay_back.Goals as goal

pub loop-i-init : goal.loop-i-init
loop-i-init c = (
  c.remnant-lit.ensures ∙ sym (lit-first _),
  sym (ap (laid c.args.desk.now c.args.first c.args.w) (compensating-none _) ∙ laid_none c.args.desk.now c.args.first c.args.w),
  refl,
)

pub overflow_add-i : goal.overflow_add-i
overflow_add-i c = omega arith

pub invariant_of-remnant-in-loop-i : goal.invariant_of-remnant-in-loop-i
invariant_of-remnant-in-loop-i c =
    record { on_desk = lies-still c.args.desk.now c.loop-i.desk c.args.named.now c.loop-i.invariant.2 c.requires.behind.lies }

pub overflow_add-first : goal.overflow_add-first
overflow_add-first c = omega arith

pub set_row-requires : goal.set_row-requires
set_row-requires c = omega (arith, c.loop-i.invariant.2)

pub loop-i-preserved : goal.loop-i-preserved
loop-i-preserved c =
    let f : ℕ → Lits = remnant_of c.args.desk.now c.args.named.now in
    let remnant : c.remnant.result ≡ f (c.loop-i.i + 1) = remnant-yet _ _ _ c.args.w c.loop-i.i (c.requires.behind.before (c.loop-i.i + 1) (omega arith)) c.loop-i.invariant.1 c.remnant.ensures in
    let next : c.less-next.result ≡ R.lit f (c.loop-i.i + 1) = c.less-next.ensures
    ∙ rw (remnant, c.negated.ensures, c.loop-i.invariant.0) (sym (lit-more f c.loop-i.i)) in
    let link : ℕ → Lits = λ i. together (R.lit f i) (negated_lits (R.lit f (i + 1))) in
    let row : c.new.result ≡ new_row (link c.loop-i.i) c.args.w = c.new.ensures
    ∙ ap (λ (x : Lits). new_row x c.args.w)
    (c.together.ensures ∙ rw (c.negated-in-loop-i.ensures, next, c.loop-i.invariant.0) refl) in (
      next,
      turn-laid _ c.args.named.now _ _ c.loop-i.i c.loop-i.invariant.1 row c.set_row.ensures,
      ap length c.set_row.ensures ∙ length-set-row _ _ _ ∙ c.loop-i.invariant.2,
    )

pub shape_of-desk : goal.shape_of-desk
shape_of-desk c = c.loop-i.invariant.2

pub returns : goal.returns
returns c =
    let e : c.loop-i.i ≡ c.args.k = omega arith in
    c.loop-i.invariant.1 ∙ ap (λ (j : ℕ). laid c.args.desk.now c.args.first c.args.w
    (compensating (remnant_of c.args.desk.now c.args.named.now) j)) e
