-- Document 01, "Refusal numbers": the number and the place that each refusal answers, and how a call's refusals come in order.
use Rattle.std.specs.Prelude.{ℕ, Bool, true, false, List, [], ◌∷◌, Err, Ok, Result, ⊤}
use Rattle.rules.specs.declared.Numbered.{Numbered}
use Rattle.rules.specs.declared.Refusal.{Refusal}
use Rattle.rules.specs.declared.Refusal.TheVariants.{TooManyVariables, BadTable, BadCapacity, NoRoom, BadLiterals, BadWeight, SumTooLarge}
use Rattle.rules.specs.declared.Refusal.TheVariants.{BadReading, BadBudget, BadDesk, TooManySteps, BadLiteral, BadNaming, BadFit, DeskFull}
use Rattle.rules.specs.declared.Refusal.TheVariants.{NothingStands, InputTooLong, BadText}

-- what a call is judged that has nothing else to say: fine, or refused
abbrev pub Judged : Type 0
Judged = Result ⊤ Refusal

infix 68 ◌when◌
abbrev pub numbers : ℕ → ℕ → Numbered
numbers number place = record { 0 = number; 1 = place }

-- "Place is 0 unless given."
abbrev pub numbered : Refusal → Numbered
numbered TooManyVariables = numbers 1 0
numbered BadTable = numbers 2 0
numbered BadCapacity = numbers 3 0
numbered NoRoom = numbers 4 0
numbered (BadLiterals row) = numbers 5 row
numbered (BadWeight row) = numbers 6 row
numbered SumTooLarge = numbers 7 0
numbered BadReading = numbers 8 0
numbered BadBudget = numbers 9 0
numbered BadDesk = numbers 10 0
numbered TooManySteps = numbers 11 0
numbered BadLiteral = numbers 12 0
numbered BadNaming = numbers 13 0
numbered BadFit = numbers 14 0
numbered DeskFull = numbers 15 0
numbered NothingStands = numbers 16 0
numbered InputTooLong = numbers 19 0
numbered (BadText line) = numbers 20 line

abbrev pub number_of : Refusal → ℕ
number_of r = (numbered r).0

abbrev pub place_of : Refusal → ℕ
place_of r = (numbered r).1

-- refused with r where the test holds, else judged as what comes after it
abbrev pub refuse : Bool → Refusal → Judged → Judged
refuse true r after = Err r
refuse false r after = after

-- the first refusal of two judgements, in this order
abbrev pub in_order : Judged → Judged → Judged
in_order (Ok _) after = after
in_order (Err r) after = Err r

-- A call's refusals in their order: each with the test that is its "given exactly when", or an order that stands by itself.
pub data Rule : Type 0 where
  ◌when◌ : Refusal → Bool → Rule
  as_in : Judged → Rule

-- what a call is judged: the first refusal that is due
abbrev pub first_due : List Rule → Judged
first_due [] = Ok tt
first_due (r when due ∷ rest) = refuse due r (first_due rest)
first_due (as_in judged ∷ []) = judged
first_due (as_in judged ∷ rule ∷ rest) = in_order judged (first_due (rule ∷ rest))

-- "lent words and bytes stay as found": what a step makes of the words where it is fine, else the words as found
abbrev pub unless_refused : Judged → List ℕ → List ℕ → List ℕ
unless_refused (Ok _) step found = step
unless_refused (Err r) step found = found
