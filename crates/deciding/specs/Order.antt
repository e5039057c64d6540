-- Decide's order in its two parts: 10 and 11, which ask nothing of the literal, then 12.
use Rattle.std.specs.Prelude.{ℕ, ◌-◌, List, Bool, not, ◌||◌, leb, ltb, ℤ, Ok}
use Rattle.masks.specs.Masks.{has}
use Rattle.literals.specs.Literal.{size}
use Rattle.rules.specs.declared.Refusal.TheVariants.{BadDesk, TooManySteps}
use Rattle.rules.specs.Refusals.{Judged, refuse}
use Rattle.rules.specs.Desk.{variables, standing, decided, most_steps, well_formed}

unfoldable pub step_why : List ℕ → Judged
step_why d = refuse (not (well_formed d)) BadDesk (refuse (leb most_steps (standing d)) TooManySteps (Ok tt))

-- of a literal: above the count or already decided
unfoldable pub out_of_reach : List ℕ → ℤ → Bool
out_of_reach d l = ltb (variables d) (size l) || has (decided d) (size l - 1)
