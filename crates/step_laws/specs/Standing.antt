-- The steps that stand after a run of calls, in the order in which they were made.
-- An accepted decision or rewriting comes to stand, an accepted taking back removes the last, behind an accepted load none stands, a refused call
-- changes nothing.
use Rattle.std.specs.Prelude.{ℕ, ◌≡◌, cond, List, [], ◌∷◌, ◌++◌, ℤ, Ok, Err}
use Rattle.std.specs.Int.Bits.{bit_or}
use Rattle.literals.specs.Literal.{is_positive, bit_of}
use Rattle.rules.specs.Refusals.{Judged}
use Rattle.rules.specs.declared.Refusal.TheVariants.{BadDesk}
use Rattle.rules.specs.Calls.{Call, decide, rewrite, take_back, load, call_why, after_call}

abbrev pub without_last : List Call → List Call
without_last [] = []
without_last (x ∷ []) = []
without_last (x ∷ y ∷ l) = x ∷ without_last (y ∷ l)

-- the standing steps after a call, from those before it
abbrev pub standing_after : Judged → Call → List Call → List Call
standing_after (Err r) call before = before
standing_after (Ok _) (decide l) before = before ++ (decide l ∷ [])
standing_after (Ok _) (rewrite kind named) before = before ++ (rewrite kind named ∷ [])
standing_after (Ok _) take_back before = without_last before
standing_after (Ok _) (load n table c) before = []

unfoldable pub standing_from : List ℕ → List Call → List Call → List Call
standing_from d before [] = before
standing_from d before (call ∷ calls) = standing_from (after_call d call) (standing_after (call_why d call) call before) calls

-- on a desk where no step stands
unfoldable pub standing_calls : List ℕ → List Call → List Call
standing_calls d calls = standing_from d [] calls

-- every call of the run is accepted
abbrev pub AllFine : List ℕ → List Call → Type 0
AllFine d [] = Unit
AllFine d (call ∷ calls) = (call_why d call ≡ Ok tt) × AllFine (after_call d call) calls

-- "calls alone .. never bring about a 10": no call of the run is refused so
abbrev pub NeverTen : List ℕ → List Call → Type 0
NeverTen d [] = Unit
NeverTen d (call ∷ calls) = (call_why d call ≡ Err BadDesk → ⊥) × NeverTen (after_call d call) calls

-- every load of the run is refused where it comes
abbrev pub LoadRefused : List ℕ → Call → Type 0
LoadRefused d (load n table c) = call_why d (load n table c) ≡ Ok tt → ⊥
LoadRefused d (decide l) = Unit
LoadRefused d (rewrite kind named) = Unit
LoadRefused d take_back = Unit

abbrev pub LoadsRefused : List ℕ → List Call → Type 0
LoadsRefused d [] = Unit
LoadsRefused d (call ∷ calls) = LoadRefused d call × LoadsRefused (after_call d call) calls

-- the masks of the decisions among these calls: variables decided, and those decided true
unfoldable pub bits_of : (ℤ → ℕ) → List Call → ℕ
bits_of bit [] = 0
bits_of bit (decide l ∷ calls) = bit_or (bit l) (bits_of bit calls)
bits_of bit (rewrite kind named ∷ calls) = bits_of bit calls
bits_of bit (take_back ∷ calls) = bits_of bit calls
bits_of bit (load n table c ∷ calls) = bits_of bit calls

abbrev pub decided_by : List Call → ℕ
decided_by calls = bits_of bit_of calls

abbrev pub true_by : List Call → ℕ
true_by calls = bits_of (λ l. cond (is_positive l) (bit_of l) 0) calls
