-- `rewriting_entry` meets its contract: the part that the rows are copied over is a run of stores.
use mathlib.Core.Path.{◌∙◌}
use native.Mathlib.Omega.{arith}
use lib.ListN.{length}
use Rattle.masks.proofs.Words.{put_mid-sets}
use Rattle.kinds.specs.Numbers.{number}
use Rattle.laying.proofs.Entry.{blank, entry_whole}
use Rattle.laying.proofs.inner.rewriting_entry.Goals as goal

pub returns : goal.returns
returns c =
    rw (c.copy_from_slice.ensures.after, c.number.ensures)
    (put_mid-sets (blank (number c.args.kind) c.args.w (length c.args.named.now) c.args.first) c.args.named.now 3 (length c.args.named.now) (omega arith) (omega arith)
    ∙ entry_whole (number c.args.kind) c.args.w c.args.first c.args.named.now c.requires)
