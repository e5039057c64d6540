-- What a hunt leaves of the working weights, and the words that it works in.
use Rattle.std.specs.Prelude.{ℕ, ◌+◌, ◌^◌, ◌<◌, List, ◌≡◌, false, length, get_or}
use Rattle.rules.specs.declared.Part.{Part}
use Rattle.rules.specs.Desk.{variables, in_use}
use Rattle.rules.specs.Groups.{Hunt, Tally, hunted, tallied, working_weight, groups_cost}
use Rattle.group_laws.specs.Trails.{weights_in}
use Rattle.looking.specs.Looks.{lits_on, Lent}
use Rattle.hunts.specs.Hunts.{Lying}
use Rattle.gathering.specs.Gathered.{group_words}

-- room for a hunt: working weights, a trail, a group
pub record Room (d words ms rs group : List ℕ) : Type 0 where
  pub lying : Lying d words
  pub lent : Lent ms rs
  pub grouped : length group ≡ group_words

-- a hunt on a desk with the working weights in words
abbrev pub hunt_on : List ℕ → Part → List ℕ → Hunt
hunt_on d p words = hunted (lits_on d) (weights_in words) (in_use d) (variables d) p

-- and what it leaves, costs counted from 0
abbrev pub tally_on : List ℕ → Part → List ℕ → Tally
tally_on d p words = tallied (lits_on d) (in_use d) (variables d) p (record { weights = weights_in words; costs = 0 })

-- the cost is taken; only a hunt that finds nothing costs nothing
pub record Hunted (d : List ℕ) (p : Part) (before after : List ℕ) (cost : ℕ) : Type 0 where
  pub words : length after ≡ length before
  pub costs : (tally_on d p before).costs ≡ cost
  pub weights : (i : ℕ) → i < in_use d → get_or after i 0 ≡ (tally_on d p before).weights i
  pub last : cost ≡ 0 → (hunt_on d p before).found ≡ false

-- the words are the working weights at the node, and no sum with what is foreseen wraps
pub record Begun (d : List ℕ) (p : Part) (start : ℕ) (words : List ℕ) : Type 0 where
  pub weights : (i : ℕ) → i < in_use d → get_or words i 0 ≡ working_weight d p i
  pub fits : start + groups_cost d p < 2 ^ 64
