-- `rewrite_step` meets its contract: the named rows lose w, the new rows are laid, then head and entry are settled.
-- An accepted rewriting says what each of these calls asks; the desk between two calls is one of `Writing`.
use Prim.Native.Nat.{ℕ, ◌*◌, ◌≤◌}
use mathlib.Core.Path.{◌≡◌, sym, ap, ◌∙◌, subst}
use mathlib.Core.List.{List}
use mathlib.Core.Bool.{false, cond, ◌&&◌}
use native.Mathlib.Omega.{arith}
use lib.Dec.{eqb}
use Rattle.rules.specs.Table.{most_weight}
use Rattle.rules.specs.Desk.{in_use, weight_on}
use Rattle.rules.specs.Rewrite.{lightest}
use Rattle.rules.specs.Steps.{concedes}
use Rattle.desk_laws.proofs.Verdicts.{rewrite-fine}
use Rattle.step_laws.proofs.Accepted.{plan}
use Rattle.kinds.specs.Numbers.{number}
use Rattle.words.specs.Room.{EntryLeft}
use Rattle.named.specs.Reweigh.{Reweighable}
use Rattle.remnants.specs.Rows.{added_rows}
use Rattle.fitting.proofs.Namings.{added-few}
use Rattle.laying.specs.Room.{Fitting}
use Rattle.rewrites.proofs.Writing.{lowered, laid_out, named-well, lies, some-named, can-lose, owed-once, can-lay}
use Rattle.rewrites.proofs.Writing.{lowered-same, laid_same, entry-still, step-whole}
use Rattle.rewrites.proofs.inner.rewrite_step.Goals as goal

pub bounds-desk-1 : goal.bounds-desk-1
bounds-desk-1 c = omega (arith, (lies _ _ _ (rewrite-fine _ _ _ c.requires)).head)

pub invariant_of-rows : goal.invariant_of-rows
invariant_of-rows c = record { on_desk = lies _ _ _ (rewrite-fine _ _ _ c.requires) }

pub lightest-w-requires : goal.lightest-w-requires
lightest-w-requires c = omega (arith, some-named _ _ _ (rewrite-fine _ _ _ c.requires))

pub added-added-requires : goal.added-added-requires
added-added-requires c = (named-well _ _ _ (rewrite-fine _ _ _ c.requires)).count

pub bounds-desk-4 : goal.bounds-desk-4
bounds-desk-4 c = omega (arith, (lies _ _ _ (rewrite-fine _ _ _ c.requires)).head)

pub overflow_mul-conceded : goal.overflow_mul-conceded
overflow_mul-conceded c =
    let owed-told : c.owed.result ≡ cond (eqb (number c.args.kind) 1 && eqb (added_rows c.args.desk.now (number c.args.kind) c.args.named.now) 0) 1 (concedes (number c.args.kind)) = c.owed.ensures
    ∙ ap (λ (r : ℕ). cond (eqb (number c.args.kind) 1 && eqb r 0) 1 (concedes (number c.args.kind))) c.added-added.ensures in
    let owed-fits : c.lightest-w.result * c.owed.result ≤ most_weight = subst (λ (v : ℕ). v * c.owed.result ≤ most_weight) (sym c.lightest-w.ensures)
    (subst (λ (o : ℕ). lightest c.args.desk.now c.args.named.now * o ≤ most_weight) (sym owed-told) (owed-once _ _ _ (rewrite-fine _ _ _ c.requires))) in
    record { fits = omega (arith, owed-fits) }

pub overflow_add-conceded : goal.overflow_add-conceded
unfolding weight_on
overflow_add-conceded c =
    let owed-told : c.owed.result ≡ cond (eqb (number c.args.kind) 1 && eqb (added_rows c.args.desk.now (number c.args.kind) c.args.named.now) 0) 1 (concedes (number c.args.kind)) = c.owed.ensures
    ∙ ap (λ (r : ℕ). cond (eqb (number c.args.kind) 1 && eqb r 0) 1 (concedes (number c.args.kind))) c.added-added.ensures in
    let owed-fits : c.lightest-w.result * c.owed.result ≤ most_weight = subst (λ (v : ℕ). v * c.owed.result ≤ most_weight) (sym c.lightest-w.ensures)
    (subst (λ (o : ℕ). lightest c.args.desk.now c.args.named.now * o ≤ most_weight) (sym owed-told) (owed-once _ _ _ (rewrite-fine _ _ _ c.requires))) in
    omega (arith, owed-fits, (rewrite-fine _ _ _ c.requires).desk.light)

pub reweigh-requires : goal.reweigh-requires
reweigh-requires c = subst (λ (v : ℕ). Reweighable c.args.desk.now c.args.named.now v false) (sym c.lightest-w.ensures) (can-lose _ _ _ (rewrite-fine _ _ _ c.requires))

pub lay-requires : goal.lay-requires
lay-requires c =
    let lowered-told : c.reweigh.new.desk ≡ lowered _ _ _ (rewrite-fine _ _ _ c.requires) = lowered-same _ _ _ (rewrite-fine _ _ _ c.requires) c.lightest-w.ensures c.reweigh.ensures in
    subst (λ (e : List ℕ). Fitting e (number c.args.kind) c.args.named.now (in_use c.args.desk.now)) (sym lowered-told) (can-lay _ _ _ (rewrite-fine _ _ _ c.requires))

pub rewriting_entry-entry-requires : goal.rewriting_entry-entry-requires
rewriting_entry-entry-requires c = (plan _ _ _ (rewrite-fine _ _ _ c.requires)).few

pub overflow_add-first : goal.overflow_add-first
overflow_add-first c =
    omega (
      arith,
      c.added-added.ensures,
      added-few c.args.desk.now (number c.args.kind) c.args.named.now,
      (plan _ _ _ (rewrite-fine _ _ _ c.requires)).few,
      (rewrite-fine _ _ _ c.requires).desk.fitting,
      (rewrite-fine _ _ _ c.requires).desk.roomy,
    )

pub settle-requires : goal.settle-requires
settle-requires c =
    let lowered-told : c.reweigh.new.desk ≡ lowered _ _ _ (rewrite-fine _ _ _ c.requires) = lowered-same _ _ _ (rewrite-fine _ _ _ c.requires) c.lightest-w.ensures c.reweigh.ensures in
    let laid-told : c.lay.new.desk ≡ laid_out _ _ _ (rewrite-fine _ _ _ c.requires) = laid_same _ _ _ (rewrite-fine _ _ _ c.requires) c.lightest-w.ensures lowered-told c.lay.ensures in
    subst EntryLeft (sym laid-told) (entry-still _ _ _ (rewrite-fine _ _ _ c.requires))

pub returns : goal.returns
returns c =
    let owed-told : c.owed.result ≡ cond (eqb (number c.args.kind) 1 && eqb (added_rows c.args.desk.now (number c.args.kind) c.args.named.now) 0) 1 (concedes (number c.args.kind)) = c.owed.ensures
    ∙ ap (λ (r : ℕ). cond (eqb (number c.args.kind) 1 && eqb r 0) 1 (concedes (number c.args.kind))) c.added-added.ensures in
    let lowered-told : c.reweigh.new.desk ≡ lowered _ _ _ (rewrite-fine _ _ _ c.requires) = lowered-same _ _ _ (rewrite-fine _ _ _ c.requires) c.lightest-w.ensures c.reweigh.ensures in
    let laid-told : c.lay.new.desk ≡ laid_out _ _ _ (rewrite-fine _ _ _ c.requires) = laid_same _ _ _ (rewrite-fine _ _ _ c.requires) c.lightest-w.ensures lowered-told c.lay.ensures in
    step-whole _ _ _ (rewrite-fine _ _ _ c.requires) c.lightest-w.ensures c.added-added.ensures owed-told laid-told
    c.rewriting_entry-entry.ensures c.settle.ensures
