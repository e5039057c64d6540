-- `Desk::of` meets its contract: each field is a word, as `word` ensures.
use Rattle.rules.specs.Figures.{head_of}
use Rattle.rules.proofs.Desk.of.Goals as goal

pub returns : goal.returns
unfolding head_of
returns c =
    rw (
      c.word-variables.ensures,
      c.word-in_use.ensures,
      c.word-capacity.ensures,
      c.word-standing.ensures,
      c.word-conceded.ensures,
      c.word-decided.ensures,
      c.word-truths.ensures,
      c.word-loaded.ensures,
    )
