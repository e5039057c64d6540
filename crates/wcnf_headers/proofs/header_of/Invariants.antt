-- `header_of` meets its contract: what is left of the text from this line on has the header that the whole text has.
use Prim.Native.Nat.{suc, ◌+◌, ◌-◌}
use mathlib.Core.Path.{◌≡◌}
use lib.ListN.{length}
use Rattle.rules.specs.WcnfReader.{header_from, header_of}
use Rattle.wcnf_headers.proofs.header_of.Given as goal

abbrev pub invariant-loop-turn : goal.invariant-loop-turn
invariant-loop-turn l = (l.line ≡ l._turn + 1) × (header_from (suc (length l.s) - l._turn) l.s l.at l.line ≡ header_of l.s)
