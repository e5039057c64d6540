-- A part of load's and of the table's refusals that the code judges in one function: "rows in order with 5 before 6, then 7".
use Rattle.std.specs.Prelude.{ℕ, List, Ok}
use Rattle.rules.specs.declared.Refusal.TheVariants.{SumTooLarge}
use Rattle.rules.specs.Refusals.{Judged, refuse, in_order}
use Rattle.rules.specs.Table.{row_count, rows_why, sum_too_large}

unfoldable pub rows_and_sum_why : ℕ → List ℕ → Judged
rows_and_sum_why n table = in_order (rows_why n table (row_count table)) (refuse (sum_too_large table) SumTooLarge (Ok tt))
