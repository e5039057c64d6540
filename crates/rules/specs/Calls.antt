-- A call on a desk as a value: a decision, a rewriting, a taking back, or a load into its words. A refused call leaves the desk as it found it.
use Rattle.std.specs.Prelude.{ℕ, List, [], ◌∷◌, ℤ}
use Rattle.rules.specs.Refusals.{Judged}
use Rattle.rules.specs.Desk.{load_why, load_desk}
use Rattle.rules.specs.Decide.{decide_why, decide_desk}
use Rattle.rules.specs.Rewrite.{rewrite_why, rewrite_desk}
use Rattle.rules.specs.TakeBack.{take_back_why, take_back_desk}

pub data Call : Type 0 where
  decide : ℤ → Call
  rewrite : ℕ → List ℕ → Call
  take_back : Call
  -- variables, table, row capacity
  load : ℕ → List ℕ → ℕ → Call

abbrev pub call_why : List ℕ → Call → Judged
call_why d (decide l) = decide_why d l
call_why d (rewrite kind named) = rewrite_why d kind named
call_why d take_back = take_back_why d
call_why d (load n table c) = load_why n table c d

-- the words after a call, refused or not: those of the call's own contract
unfoldable pub after_call : List ℕ → Call → List ℕ
after_call d (decide l) = decide_desk d l
after_call d (rewrite kind named) = rewrite_desk d kind named
after_call d take_back = take_back_desk d
after_call d (load n table c) = load_desk n table c d

unfoldable pub after_calls : List ℕ → List Call → List ℕ
after_calls d [] = d
after_calls d (call ∷ calls) = after_calls (after_call d call) calls
