-- `read_rest` meets its contract: refused by what follows the header, or fine and stored.
use mathlib.Core.Path.{◌∙◌}
use borrow.Author.Rules.{rules}
use Rattle.wcnf_reader.proofs.Rest.{behind-refused, behind-fine, behind-room}
use Rattle.wcnf_reader.proofs.inner.read_rest.Goals as goal

pub store_rows-requires : goal.store_rows-requires
store_rows-requires c =
    behind-room c.args.most c.args.s.now c.args.table.now c.args.variables c.args.clauses c.args.top c.args.from c.args.line _
    c.figures_why.ensures c.in_ok-figures_why.was

pub returns-in_err-figures_why : goal.returns-in_err-figures_why
returns-in_err-figures_why c =
    let told =
    behind-refused c.args.most c.args.s.now c.args.table.now c.args.variables c.args.clauses c.args.top c.args.from c.args.line _
    c.figures_why.ensures _ c.in_err-figures_why.was
    in record { answer = rw (← told.0) (search rules); words = told.1 }

pub returns : goal.returns
returns c =
    let fine =
    behind-fine c.args.most c.args.s.now c.args.table.now c.args.variables c.args.clauses c.args.top c.args.from c.args.line _
    c.figures_why.ensures c.in_ok-figures_why.was
    in record { answer = fine.0; words = c.store_rows.ensures ∙ fine.1 }
