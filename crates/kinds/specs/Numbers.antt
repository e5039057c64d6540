-- The number that document 01 gives a step's kind.
use Rattle.std.specs.Prelude.{ℕ}
use Rattle.kinds.specs.declared.Kind.{Kind}
use Rattle.kinds.specs.declared.Kind.TheVariants.{Decision, Merge, Shift, Chain, Fork}

abbrev pub number : Kind → ℕ
number Decision = 0
number Merge = 1
number Shift = 2
number Chain = 3
number Fork = 4
