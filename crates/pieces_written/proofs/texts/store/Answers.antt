-- `store` meets its contract: the bytes are counted first, then refused for want of room, or stored.
use Rattle.std.specs.Prelude.{Ok}
use mathlib.Core.Path.{refl, ap, ◌∙◌}
use native.Mathlib.Nat.{zero-add}
use Rattle.text_laws.proofs.LentBytes.{text-no-room, text-stored}
use Rattle.pieces_written.proofs.texts.store.Goals as goal

pub returns-then-out-n : goal.returns-then-out-n
returns-then-out-n g c =
    let long = c.put-n.ensures.place ∙ zero-add _ in
    let told = text-no-room _ _ _ refl (rw long at c.if-out-n.true) in
    record { answer = told.0; bytes = told.1 }

pub returns : goal.returns
returns g c =
    let long = c.put-n.ensures.place ∙ zero-add _ in
    let fine = text-stored _ _ _ refl (rw long at c.if-out-n.false) in
    record { answer = ap Ok long ∙ fine.0; bytes = c.put.ensures.bytes ∙ fine.1 }
