-- Where rows end, or the first of their lines that breaks the form.
use Rattle.std.specs.Prelude.{ℕ, Result, Ok, Err}
use Rattle.rules.specs.Reader.{RowsRead, rows, broken_at}

abbrev pub end_of : RowsRead → Result ℕ ℕ
end_of (rows words next) = Ok next
end_of (broken_at line) = Err line
