-- Document 02, C-14: a second bound, and "the caller of a search chooses". What is asked of either, and the bound of a desk by the one chosen.
use Rattle.std.specs.Prelude.{ℕ, List, cond, eqb, Result, Ok, Err}
use Rattle.rules.specs.declared.Part.{Part}
use Rattle.rules.specs.declared.Choice.{Choice}
use Rattle.rules.specs.declared.Losses.{Losses}
use Rattle.rules.specs.Refusals.{Judged}
use Rattle.rules.specs.Desk.{decisions}
use Rattle.rules.specs.Bound.{bound, losses_at, desk_why}
use Rattle.rules.specs.Groups.{groups_bound, losses_by_groups}
use Rattle.rules.specs.declared.Refusal.{Refusal}

-- of a caller in C: 0 is document 01's bound, any other number the bound by groups
unfoldable pub choice_of : ℕ → Choice
choice_of n = cond (eqb n 0) Choice.Units Choice.Groups

abbrev pub bound_by : Choice → List ℕ → Part → ℕ
bound_by Choice.Units = bound
bound_by Choice.Groups = groups_bound

abbrev pub losses_by : Choice → List ℕ → Part → Losses
losses_by Choice.Units = losses_at
losses_by Choice.Groups = losses_by_groups

abbrev pub bounded_as : Judged → Losses → Result Losses Refusal
bounded_as (Ok _) l = Ok l
bounded_as (Err r) l = Err r

-- the bound of a desk, under its own decisions
unfoldable pub bounded : List ℕ → Choice → Result Losses Refusal
bounded d choice = bounded_as (desk_why d) (losses_by choice d (decisions d))
