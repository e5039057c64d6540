-- `read_up_to` meets its contract: refused by the header, or what is behind it.
use Rattle.std.specs.Prelude.{Ok}
use mathlib.Core.Path.{◌≡◌}
use borrow.Author.Rules.{rules}
use Rattle.rules.specs.WcnfReader.{header_of}
use Rattle.wcnf_reader.proofs.Rest.{head-line, read-broken, behind-read}
use Rattle.wcnf_reader.proofs.inner.read_up_to.Goals as goal

pub read_rest-requires : goal.read_rest-requires
read_rest-requires c =
    let read : header_of c.args.s.now ≡ Ok c.in_ok-variables.field-0 = search rules in
    (c.requires, head-line c.args.s.now _ _ _ _ _ read)

pub returns-in_err-variables : goal.returns-in_err-variables
returns-in_err-variables c =
    let told = read-broken c.args.most c.args.s.now c.args.table.now c.from_residual.result (search rules) in
    record { answer = told.0; words = told.1 }

pub returns : goal.returns
returns c =
    let read : header_of c.args.s.now ≡ Ok c.in_ok-variables.field-0 = search rules in
    let told =
    behind-read c.args.most c.args.s.now c.args.table.now _ _ _ _ _ read _ _
    (c.read_rest.ensures.answer, c.read_rest.ensures.words)
    in record { answer = told.0; words = told.1 }
