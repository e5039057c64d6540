use Prim.Native.Nat.{ℕ, ◌+◌, ◌<◌}
use mathlib.Core.Path.{◌≡◌, sym, ap, ◌∙◌}
use native.Mathlib.Nat.{add-zero}
use native.Mathlib.Omega.{arith}
use Rattle.masks.proofs.Sums.{sum_more}
use Rattle.literals.specs.Lits.{is_empty}
use Rattle.rules.specs.declared.Row.{Row}
use Rattle.rules.specs.Desk.{in_use, row_on}
use Rattle.rules.specs.Bound.{weight_where}
use Rattle.desk_laws.specs.Charged.{charged_row, lost_charged}
use Rattle.desk_laws.proofs.Charged.{charged-fits}
use Rattle.bound.proofs.Gathering.{gathered-at, gathered-more, gathered-roomy}
use Rattle.bound.proofs.inner.gather_next.Goals as goal

pub loop-i-init : goal.loop-i-init
loop-i-init c =
    let e : c.args.from ≡ c.args.from + 0 = sym (add-zero c.args.from) in (
      c.requires.base_value ∙ ap (lost_charged c.args.charge c.args.desk.words.now c.args.p) e,
      gathered-at c.args.desk.words.now c.args.p e c.requires.gathered,
    )

pub overflow_add-from : goal.overflow_add-from
overflow_add-from c = omega (arith, c.args.desk.readable.rows, c.requires.count_bound)

pub row-row-requires : goal.row-row-requires
row-row-requires c = omega (arith, c.requires.count_bound)

pub add_row-lost-requires : goal.add_row-lost-requires
add_row-lost-requires c =
    let at : ℕ = c.args.from + c.loop-i.i in
    let more : at < in_use c.args.desk.words.now = omega (arith, c.requires.count_bound) in
    let weighs : (charged_row c.args.charge c.row-row.result).weight ≡ (charged_row c.args.charge (row_on c.args.desk.words.now at)).weight =
    ap (λ (r : Row). (charged_row c.args.charge r).weight) c.row-row.ensures in
    record {
      row_bound = omega (arith, c.loop-i.invariant.0, charged-fits c.args.desk.words.now c.args.p c.args.desk.readable c.args.charge c.requires.fair at more);
      roomy = gathered-roomy c.args.desk.words.now c.args.p at c.loop-i.sums c.loop-i.invariant.1 _ c.row-row.ensures c.args.desk.readable more;
    }

pub loop-i-preserved : goal.loop-i-preserved
loop-i-preserved c =
    let lost-more : c.add_row-lost.result ≡ c.loop-i.lost + weight_where is_empty c.args.p (charged_row c.args.charge (row_on c.args.desk.words.now (c.args.from + c.loop-i.i))) = let added : Row → ℕ = λ r. c.loop-i.lost + weight_where is_empty c.args.p (charged_row c.args.charge r) in
    ◌∙◌ {b = added c.row-row.result} c.add_row-lost.ensures.value (ap added c.row-row.ensures) in
    let at : ℕ = c.args.from + c.loop-i.i in
    let e : at + 1 ≡ c.args.from + (c.loop-i.i + 1) = omega arith in
    let lost : c.add_row-lost.result ≡ lost_charged c.args.charge c.args.desk.words.now c.args.p (at + 1) =
    omega (arith, c.loop-i.invariant.0, lost-more, sum_more at (λ k. weight_where is_empty c.args.p (charged_row c.args.charge (row_on c.args.desk.words.now k)))) in (
      lost ∙ ap (lost_charged c.args.charge c.args.desk.words.now c.args.p) e,
      gathered-at c.args.desk.words.now c.args.p e
          (gathered-more c.args.desk.words.now c.args.p at c.loop-i.sums c.loop-i.invariant.1 _ c.row-row.ensures _ c.add_row-lost.ensures.grown),
    )

pub shape_of-sums : goal.shape_of-sums
shape_of-sums c = c.loop-i.invariant.1.words ∙ sym c.requires.gathered.words

pub returns : goal.returns
returns c =
    let e : c.args.from + c.loop-i.i ≡ c.args.from + c.args.count = omega arith in
    record {
      value = c.loop-i.invariant.0 ∙ ap (lost_charged c.args.charge c.args.desk.words.now c.args.p) e;
      gathered_2 = gathered-at c.args.desk.words.now c.args.p e c.loop-i.invariant.1;
    }
