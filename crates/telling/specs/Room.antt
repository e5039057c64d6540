-- The place of a judgement, for which there is to be room above the low byte.
use Rattle.std.specs.Prelude.{ℕ, Ok, Err}
use Rattle.rules.specs.Refusals.{Judged, place_of}

-- the row or the line; 0 where there is none
abbrev pub place_in : Judged → ℕ
place_in (Ok _) = 0
place_in (Err r) = place_of r
