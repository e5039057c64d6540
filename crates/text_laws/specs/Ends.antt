-- Rows that were read to their end, whatever follows them.
use Rattle.std.specs.Prelude.{Bool, true, false}
use Rattle.rules.specs.Reader.{RowsRead, rows, broken_at}

abbrev pub unbroken : RowsRead → Bool
unbroken (rows words next) = true
unbroken (broken_at line) = false
