-- `add_row` meets its contract: the ones that are left decide where its weight goes, and whether it is satisfied how much that is.
use Prim.Native.Nat.{ℕ, ◌+◌}
use mathlib.Core.Path.{◌≡◌, ap, ◌∙◌}
use native.Mathlib.Omega.{arith}
use borrow.Author.Rules.{rules}
use Rattle.rules.specs.declared.Row.{Row}
use Rattle.rules.specs.Table.{with_weight}
use Rattle.desk_laws.specs.Charged.{charged_row}
use Rattle.units.specs.Adds.{weight_under}
use Rattle.units.proofs.Ones.{Left, left-charged, under-le, none-lost, empty-lost, one_of, roomy-under, place-there}
use Rattle.units.proofs.Ones.{more-gather, empty-gather, one-gathers}
use Rattle.units.proofs.inner.add_row.Goals as goal

pub overflow_add-row : goal.overflow_add-row
overflow_add-row c = omega (arith, c.requires.row_bound, c.charge_on.ensures)

pub overflow_add-result : goal.overflow_add-result
overflow_add-result c =
    let weight-charged : c.weight_under.result ≡ weight_under c.args.p (charged_row c.args.charge c.args.row) 0 = c.weight_under.ensures
    ∙ ap (λ (r : Row). weight_under c.args.p r 0)
    (c.with_weight-charged.ensures ∙ ap (λ (w : ℕ). with_weight c.args.row (c.args.row.weight + w)) c.charge_on.ensures) in
    omega (arith, c.requires.row_bound, weight-charged, under-le c.args.p (charged_row c.args.charge c.args.row) 0)

pub returns-then-some-eq0 : goal.returns-then-some-eq0
returns-then-some-eq0 c =
    let left : Left c.args.p c.args.row c.without-some.result c.count-left.result = record {
      is = c.without-some.ensures;
      held = record { positives = search rules; negatives = search rules };
      within = search rules;
      counted = c.count-left.ensures;
    } in
    let weight-charged : c.weight_under.result ≡ weight_under c.args.p (charged_row c.args.charge c.args.row) 0 = c.weight_under.ensures
    ∙ ap (λ (r : Row). weight_under c.args.p r 0)
    (c.with_weight-charged.ensures ∙ ap (λ (w : ℕ). with_weight c.args.row (c.args.row.weight + w)) c.charge_on.ensures) in
    let l = left in
    record {
      value = ap (λ (w : ℕ). c.args.lost + w) (empty-lost (left-charged c.args.charge l) _ weight-charged c.if-some-eq0.true);
      grown = empty-gather l _ c.if-some-eq0.true;
    }

pub returns-then-left-gt1 : goal.returns-then-left-gt1
returns-then-left-gt1 c =
    let left : Left c.args.p c.args.row c.without-some.result c.count-left.result = record {
      is = c.without-some.ensures;
      held = record { positives = search rules; negatives = search rules };
      within = search rules;
      counted = c.count-left.ensures;
    } in
    let l = left in
    record {
      value = omega (arith, none-lost (left-charged c.args.charge l) (λ z. omega (arith, c.if-left-gt1.true)));
      grown = more-gather l _ c.if-left-gt1.true;
    }

pub add_unit-requires : goal.add_unit-requires
add_unit-requires c =
    let left : Left c.args.p c.args.row c.without-some.result c.count-left.result = record {
      is = c.without-some.ensures;
      held = record { positives = search rules; negatives = search rules };
      within = search rules;
      counted = c.count-left.ensures;
    } in
    let one : c.count-left.result ≡ 1 = one_of left c.if-some-eq0.false c.if-left-gt1.false in
    let l = left in
    record {
      rest_bound = place-there l one;
      roomy = roomy-under l _ c.weight_under-2.ensures c.requires.roomy;
    }

pub returns : goal.returns
returns c =
    let left : Left c.args.p c.args.row c.without-some.result c.count-left.result = record {
      is = c.without-some.ensures;
      held = record { positives = search rules; negatives = search rules };
      within = search rules;
      counted = c.count-left.ensures;
    } in
    let one : c.count-left.result ≡ 1 = one_of left c.if-some-eq0.false c.if-left-gt1.false in
    let l = left in
    record {
      value = omega (arith, none-lost (left-charged c.args.charge l) (λ z. omega (arith, one)));
      grown = one-gathers l _ c.weight_under-2.ensures _ _ one c.add_unit.ensures;
    }
