use Prim.Native.Nat.{ℕ}
use mathlib.Core.Path.{◌≡◌, refl, sym, ap, ◌∙◌}
use mathlib.Core.List.{List}
use native.Mathlib.Omega.{arith}
use lib.ListN.{length, get_or}
use Rattle.rules.specs.declared.Row.{Row}
use Rattle.rules.specs.Desk.{row_on, set_weight}
use Rattle.rules.specs.Steps.{reweighed}
use Rattle.desk_laws.proofs.Stores.{length-set-weight}
use Rattle.named.specs.Reweigh.{new_weight}
use Rattle.named.proofs.Turns.{reweighed-none, reweighed-more, weight-yet}
use Rattle.named.proofs.inner.reweigh.Goals as goal

abbrev row : List ℕ → ℕ → ℕ
row named i = get_or named i 0

pub loop-row-init : goal.loop-row-init
loop-row-init c = (sym (reweighed-none _ _ _), refl)

pub row_on-weight-requires : goal.row_on-weight-requires
row_on-weight-requires c = omega (arith, c.requires.inside c.loop-row.row-index (omega arith))

pub changed-requires : goal.changed-requires
changed-requires c =
    let old : c.row_on-weight.result.weight ≡ (row_on c.args.desk.now
    (row c.args.named.now c.loop-row.row-index)).weight = ap (λ (r : Row). r.weight) c.row_on-weight.ensures
    ∙ ap (λ (e : List ℕ). (row_on e (row c.args.named.now c.loop-row.row-index)).weight) c.loop-row.invariant.0
    ∙ weight-yet (new_weight c.args.w c.args.regain) (row c.args.named.now) c.args.desk.now (length c.args.named.now) c.loop-row.row-index
    c.requires.apart (omega arith) in
    record {
      weight_bound = rw old (c.requires.fits c.loop-row.row-index (omega arith));
      w_bound = rw old (c.requires.holds c.loop-row.row-index (omega arith));
    }

pub set_weight-requires : goal.set_weight-requires
set_weight-requires c = omega (arith, c.requires.inside c.loop-row.row-index (omega arith))

pub loop-row-preserved : goal.loop-row-preserved
loop-row-preserved c =
    let k = row c.args.named.now c.loop-row.row-index in
    let f = new_weight c.args.w c.args.regain in
    let g = reweighed f (row c.args.named.now) c.args.desk.now c.loop-row.row-index in
    let w : c.changed.result ≡ f (row_on g k).weight =
    c.changed.ensures
    ∙ ap f (ap (λ (x : Row). x.weight) c.row_on-weight.ensures ∙ ap (λ (x : List ℕ). (row_on x k).weight) c.loop-row.invariant.0) in (
      c.set_weight.ensures ∙ ap (λ (x : List ℕ). set_weight x k c.changed.result) c.loop-row.invariant.0 ∙ ap (set_weight g k) w
          ∙ sym (reweighed-more f (row c.args.named.now) c.args.desk.now c.loop-row.row-index),
      ap length c.set_weight.ensures ∙ length-set-weight _ _ _ ∙ c.loop-row.invariant.1,
    )
