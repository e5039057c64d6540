-- `lay_fork` meets its contract: the last two rows come behind those of the chain.
use Rattle.laying.proofs.Laying.{fork-laid}
use Rattle.laying.proofs.inner.lay_fork.Goals as goal

pub returns : goal.returns
returns c = fork-laid _ _ _ _ c.lay_back.ensures c.fork_end-end.ensures c.lay_two.ensures
