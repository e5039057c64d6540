-- `reply` meets its contract: bytes with room for every answer are never refused, and hold the answer at their front.
use Rattle.answer.proofs.Lengths.{never-refused}
use Rattle.streams.proofs.Replying.{never-none, replied}
use Rattle.solve.proofs.reply.Goals as goal

pub unwrap-requires : goal.unwrap-requires
unwrap-requires c =
    let fine = never-refused c.args.input.now c.args.output.now c.requires in
    never-none _ _ fine _ c.answer.ensures.answer

pub returns : goal.returns
returns c =
    let fine = never-refused c.args.input.now c.args.output.now c.requires in
    replied _ _ fine _ c.answer.ensures.answer _ _ c.unwrap.ensures c.answer.ensures.bytes
