-- `look` meets its contract: each of its returns is a law of looking, by the tests that led there.
use Prim.Native.Nat.{ℕ}
use mathlib.Core.Path.{◌≡◌, sym, ap, ◌∙◌}
use mathlib.Core.Bool.{false}
use lib.Bits.{bit_and, bit_or}
use Rattle.literals.specs.declared.Lits.{Lits}
use Rattle.literals.specs.Lits.{variables_of, is_one}
use Rattle.rules.specs.Desk.{satisfied, remnant}
use Rattle.looking.specs.declared.Trail.{Trail}
use Rattle.looking.specs.Looks.{hunt_of}
use Rattle.looking.proofs.Looking.{look-satisfied, look-conflict, look-forced, look-idle, left-fresh, conflict-kept, conflict-roomy}
use Rattle.looking.proofs.inner.look.Goals as goal

-- the variables of what is left
abbrev some : Lits → ℕ
some l = bit_or l.positive l.negative

pub returns-then-satisfied : goal.returns-then-satisfied
returns-then-satisfied c =
    record {
      rows_after = look-satisfied c.args.i c.args.lits (hunt_of c.args.t c.args.masks.now c.args.rows.now) (sym c.satisfied.ensures ∙ c.if-satisfied.true);
      roomy = c.requires;
    }

pub returns-then-rest-eq0 : goal.returns-then-rest-eq0
returns-then-rest-eq0 c =
    let unsatisfied : satisfied c.args.t.q c.args.lits ≡ false = sym c.satisfied.ensures ∙ c.if-satisfied.false in
    record {
      rows_after = ap (λ (t : Trail). hunt_of t c.args.masks.now c.args.rows.now) c.conflict_at.ensures
          ∙ conflict-kept c.args.i c.args.t c.args.masks.now c.args.rows.now
          ∙ look-conflict c.args.i c.args.lits (hunt_of c.args.t c.args.masks.now c.args.rows.now) unsatisfied (sym (ap some c.remnant-rest.ensures) ∙ c.if-rest-eq0.true);
      roomy = rw c.conflict_at.ensures (conflict-roomy c.args.i c.args.t c.args.masks.now c.args.rows.now c.requires);
    }

pub force-requires : goal.force-requires
force-requires c =
    record {
      l_value = (
        sym c.is_unit.ensures ∙ c.if-is_unit.true,
        ap (λ (l : Lits). bit_and c.args.t.q.decided (variables_of l)) c.remnant-rest.ensures ∙ left-fresh c.args.t.q c.args.lits,
      );
      roomy = c.requires;
    }

pub returns-then-is_unit : goal.returns-then-is_unit
returns-then-is_unit c =
    let unsatisfied : satisfied c.args.t.q c.args.lits ≡ false = sym c.satisfied.ensures ∙ c.if-satisfied.false in
    let something : some (remnant c.args.t.q c.args.lits) ≡ 0 → ⊥ = λ z. c.if-rest-eq0.false (ap some c.remnant-rest.ensures ∙ z) in
    let h = hunt_of c.args.t c.args.masks.now c.args.rows.now in
    record {
      rows_after = look-forced c.args.i c.args.lits h unsatisfied something _ c.remnant-rest.ensures
          (sym c.is_unit.ensures ∙ c.if-is_unit.true) _ c.force.ensures.rows_after;
      roomy = c.force.ensures.roomy_2;
    }

pub returns : goal.returns
returns c =
    let unsatisfied : satisfied c.args.t.q c.args.lits ≡ false = sym c.satisfied.ensures ∙ c.if-satisfied.false in
    let something : some (remnant c.args.t.q c.args.lits) ≡ 0 → ⊥ = λ z. c.if-rest-eq0.false (ap some c.remnant-rest.ensures ∙ z) in
    record {
      rows_after = look-idle c.args.i c.args.lits (hunt_of c.args.t c.args.masks.now c.args.rows.now) unsatisfied something
          (sym (ap is_one c.remnant-rest.ensures) ∙ sym c.is_unit.ensures ∙ c.if-is_unit.false);
      roomy = c.requires;
    }
