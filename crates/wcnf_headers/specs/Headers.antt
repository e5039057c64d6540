-- What follows the name in a header's line: three figures, to the end of the line.
use Rattle.std.specs.Prelude.{ℕ, List, Result, Ok, Err}
use Rattle.rules.specs.declared.WcnfHead.{WcnfHead}
use Rattle.rules.specs.Reader.{ended, on_number}
use Rattle.rules.specs.WcnfReader.{parted_at, header_says}

unfoldable pub figures_at : List ℕ → ℕ → ℕ → Result WcnfHead ℕ
figures_at s at line =
    on_number (parted_at s at) (Err line) (λ variables next.
    on_number (parted_at s next) (Err line) (λ clauses next.
    on_number (ended s (parted_at s next)) (Err line) (λ top next. Ok (header_says variables clauses top next line))))
