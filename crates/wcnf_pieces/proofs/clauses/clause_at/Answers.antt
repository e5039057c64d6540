-- `clause_at` meets its contract: the weight, then the members up to the closing 0.
use mathlib.Core.Path.{sym, ◌∙◌}
use Rattle.text_laws.proofs.Matched.{matched}
use Rattle.wcnf_pieces.proofs.Members.{no-weight, no-members, clause-is}
use Rattle.wcnf_pieces.proofs.clauses.clause_at.Goals as goal

pub returns-in_err-weight : goal.returns-in_err-weight
returns-in_err-weight c =
    c.from_residual.ensures ∙ sym (no-weight c.args.variables c.args.s.now c.args.at (matched c.number_at.ensures c.in_err-weight.was))

pub returns-in_err-lits : goal.returns-in_err-lits
returns-in_err-lits c =
    let number = matched c.number_at.ensures c.in_ok-weight.was in
    let none = matched c.members_from.ensures c.in_err-lits.was in
    c.from_residual-in_err-lits.ensures ∙ sym (no-members c.args.variables c.args.s.now c.args.at _ _ number none)

pub returns : goal.returns
returns c =
    let number = matched c.number_at.ensures c.in_ok-weight.was in
    let read = matched c.members_from.ensures c.in_ok-lits.was in
    clause-is c.args.variables c.args.s.now c.args.at _ _ number _ _ _ _ read c.bad_lits.ensures
