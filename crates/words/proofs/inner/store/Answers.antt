-- `store` meets its contract: the part that the entry is copied over is a run of stores.
use native.Mathlib.Omega.{arith}
use Rattle.masks.proofs.Words.{put_mid-sets}
use Rattle.words.proofs.inner.store.Goals as goal

pub returns : goal.returns
returns c = rw c.copy_from_slice.ensures.after (put_mid-sets c.args.desk.now c.args.entry c.args.at 16 (omega arith) (omega arith))
