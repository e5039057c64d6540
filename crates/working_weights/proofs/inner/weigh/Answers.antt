use Prim.Native.Nat.{ℕ, ◌+◌, ◌^◌, ◌<◌}
use mathlib.Core.Path.{◌≡◌, sym, ap, subst, ◌∙◌}
use native.Mathlib.Omega.{arith}
use Rattle.masks.proofs.Sums.{sum-empty, sum_more}
use Rattle.literals.specs.Lits.{is_empty}
use Rattle.rules.specs.declared.Row.{Row}
use Rattle.rules.specs.Desk.{in_use, row_on}
use Rattle.rules.specs.Bound.{weight_where}
use Rattle.desk_laws.specs.Charged.{charged_row, lost_charged}
use Rattle.desk_laws.proofs.Readable.{where-le}
use Rattle.desk_laws.proofs.Charged.{charged-fits}
use Rattle.working_weights.specs.declared.Shares.{Shares}
use Rattle.working_weights.specs.Works.{shares_of, Works}
use Rattle.working_weights.proofs.Sharing.{works-none, works-more}
use Rattle.working_weights.proofs.inner.weigh.Goals as goal

pub loop-i-init : goal.loop-i-init
loop-i-init c = (sym (sum-empty _), works-none _ _ _)

pub shares-s-requires : goal.shares-s-requires
shares-s-requires c =
    let within : c.loop-i.i < in_use c.args.desk.words.now = omega (arith, c.in_use-n.ensures) in
    let fits : lost_charged c.args.charge c.args.desk.words.now c.args.p c.loop-i.i + (charged_row c.args.charge (row_on c.args.desk.words.now c.loop-i.i)).weight < 2 ^ 64 = charged-fits c.args.desk.words.now c.args.p c.args.desk.readable c.args.charge c.requires.fair c.loop-i.i within in
    let e : (charged_row c.args.charge c.row-row.result).weight ≡ (charged_row c.args.charge (row_on c.args.desk.words.now c.loop-i.i)).weight =
    ap (λ (r : Row). (charged_row c.args.charge r).weight) c.row-row.ensures in
    omega (arith, e, fits)

pub offset_bounds-weights-i : goal.offset_bounds-weights-i
offset_bounds-weights-i c =
    let within : c.loop-i.i < in_use c.args.desk.words.now = omega (arith, c.in_use-n.ensures) in
    omega (arith, within, c.requires.desk_in_bounds, c.loop-i.invariant.1.kept)

pub bounds-weights-i : goal.bounds-weights-i
bounds-weights-i c =
    let within : c.loop-i.i < in_use c.args.desk.words.now = omega (arith, c.in_use-n.ensures) in
    omega (arith, within, c.requires.desk_in_bounds, c.loop-i.invariant.1.kept)

pub overflow_add-lost : goal.overflow_add-lost
unfolding shares_of
overflow_add-lost c =
    let lost-here : c.shares-s.result.lost ≡ weight_where is_empty c.args.p (charged_row c.args.charge (row_on c.args.desk.words.now c.loop-i.i)) = ap (λ (s : Shares). s.lost) c.shares-s.ensures
    ∙ ap (λ (r : Row). weight_where is_empty c.args.p (charged_row c.args.charge r)) c.row-row.ensures in
    let within : c.loop-i.i < in_use c.args.desk.words.now = omega (arith, c.in_use-n.ensures) in
    let fits : lost_charged c.args.charge c.args.desk.words.now c.args.p c.loop-i.i + (charged_row c.args.charge (row_on c.args.desk.words.now c.loop-i.i)).weight < 2 ^ 64 = charged-fits c.args.desk.words.now c.args.p c.args.desk.readable c.args.charge c.requires.fair c.loop-i.i within in
    let most = where-le is_empty c.args.p (charged_row c.args.charge (row_on c.args.desk.words.now c.loop-i.i)) in
    omega (arith, c.loop-i.invariant.0, lost-here, most, fits)

pub loop-i-preserved : goal.loop-i-preserved
unfolding shares_of
loop-i-preserved c =
    let lost-here : c.shares-s.result.lost ≡ weight_where is_empty c.args.p (charged_row c.args.charge (row_on c.args.desk.words.now c.loop-i.i)) = ap (λ (s : Shares). s.lost) c.shares-s.ensures
    ∙ ap (λ (r : Row). weight_where is_empty c.args.p (charged_row c.args.charge r)) c.row-row.ensures in
    let within : c.loop-i.i < in_use c.args.desk.words.now = omega (arith, c.in_use-n.ensures) in (
      omega (arith, c.loop-i.invariant.0, lost-here, sum_more c.loop-i.i (λ k. weight_where is_empty c.args.p (charged_row c.args.charge (row_on c.args.desk.words.now k)))),
      works-more c.args.desk.words.now c.args.p c.args.weights.now c.loop-i.i c.loop-i.weights c.loop-i.invariant.1 (omega (arith, within, c.requires.desk_in_bounds, c.loop-i.invariant.1.kept)) _
          c.row-row.ensures c.args.charge _ c.shares-s.ensures,
    )

pub shape_of-weights : goal.shape_of-weights
shape_of-weights c = c.loop-i.invariant.1.kept

pub returns : goal.returns
returns c =
    let e : c.loop-i.i ≡ in_use c.args.desk.words.now = omega (arith, c.in_use-n.ensures) in
    record {
      value = c.loop-i.invariant.0 ∙ ap (lost_charged c.args.charge c.args.desk.words.now c.args.p) e;
      works = subst (λ (n : ℕ). Works c.args.desk.words.now c.args.p n c.args.weights.now c.loop-i.weights) e c.loop-i.invariant.1;
    }
