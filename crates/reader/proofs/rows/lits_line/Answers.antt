-- `lits_line` meets its contract: the key, then the literals. A key that stands there ends within the text.
use mathlib.Core.Path.{refl, sym, ◌∙◌}
use native.Mathlib.Omega.{arith}
use Rattle.text_laws.specs.Keys.{equal_sign, lits_key}
use Rattle.text_laws.proofs.Matched.{matched}
use Rattle.text_laws.proofs.Stands.{ends_with}
use Rattle.text_laws.proofs.Branches.{line-of-lits, line-no-lits}
use Rattle.reader.proofs.rows.lits_line.Goals as goal

pub overflow_add-from : goal.overflow_add-from
overflow_add-from c = omega (arith, ends_with c.args.s.now c.args.at lits_key equal_sign (omega arith) refl (matched c.stands.ensures c.if-stands.true))

pub returns-then-stands : goal.returns-then-stands
returns-then-stands c =
    let key = matched c.stands.ensures c.if-stands.true in
    c.lits_from.ensures ∙ sym (line-of-lits c.args.s.now c.args.at key)

pub returns-else-stands : goal.returns-else-stands
returns-else-stands c = sym (line-no-lits c.args.s.now c.args.at (matched c.stands.ensures c.if-stands.false))
