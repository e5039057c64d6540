-- `zero` meets its contract: the part that is filled with 0 is a run of zeros.
use Rattle.masks.proofs.Words.{put_mid-zeroed}
use Rattle.words.proofs.inner.zero.Goals as goal

pub returns : goal.returns
returns c = put_mid-zeroed c.args.desk.now c.fill.new.self c.args.at c.args.n (c.fill.ensures.after (λ y h. h)) c.requires
