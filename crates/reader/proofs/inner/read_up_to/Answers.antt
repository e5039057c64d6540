-- `read_up_to` meets its contract: refused by the head, or what is behind it.
use Rattle.std.specs.Prelude.{Err}
use mathlib.Core.Path.{ap, ◌∙◌}
use Rattle.text_laws.proofs.Matched.{matched}
use Rattle.text_laws.proofs.Reading.{read-broken}
use Rattle.masks.proofs.Choice.{handed-on}
use Rattle.reader.proofs.Exits.{text-fine, text-broken}
use Rattle.reader.proofs.Rest.{behind-read}
use Rattle.reader.proofs.inner.read_up_to.Goals as goal

pub returns-in_err-variables : goal.returns-in_err-variables
returns-in_err-variables c =
    let broken = text-broken _ c.in_err-variables.ensures.cases in
    let told = read-broken c.args.most c.args.s.now c.args.table.now _ (matched c.head_at.ensures broken.1) in
    record { answer = handed-on _ _ c.from_residual.ensures.1 ∙ ap Err broken.2 ∙ told.0; words = told.1 }

pub returns : goal.returns
returns c =
    let told =
    behind-read c.args.most c.args.s.now c.args.table.now _ _ _ _ _ _ _ c.head_at.ensures (text-fine _ c.in_ok-variables.ensures.cases)
    (c.read_rest.ensures.answer, c.read_rest.ensures.words)
    in record { answer = told.0; words = told.1 }
