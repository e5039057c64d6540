use Prim.Native.Nat.{ℕ, suc, ◌+◌, ◌-◌, ◌<◌, ◌≤◌}
use mathlib.Core.Path.{◌≡◌, ap, ◌∙◌}
use mathlib.Core.List.{List}
use native.Mathlib.Nat.{sub-zero, add-zero}
use native.Mathlib.Omega.{arith}
use borrow.Author.Rules.{rules}
use Rattle.rules.specs.Refusals.{Judged}
use Rattle.rules.specs.WcnfReader.{clauses_why}
use Rattle.text_laws.proofs.Matched.{matched}
use Rattle.wcnf_reader.proofs.Turns.{why-broken, why-bad, why-next, why-end, why-surplus}
use Rattle.wcnf_reader.proofs.clauses.clauses_why.Goals as goal

module _ (m i variables : ℕ) (s : List ℕ) (at first : ℕ) (all : Judged) (e : clauses_why (m - i) i variables s at (first + i) ≡ all) where
  -- one clause of those that are left
  turn : i < m → clauses_why (suc (m - (i + 1))) i variables s at (first + i) ≡ all
  turn h =
      let left : suc (m - (i + 1)) ≡ m - i = omega arith in
      ap (λ (k : ℕ). clauses_why k i variables s at (first + i)) left ∙ e

  -- none is left
  last : i ≤ m → m ≤ i → clauses_why 0 i variables s at (first + m) ≡ all
  last l h =
      let none : 0 ≡ m - i = omega arith in
      let line : first + m ≡ first + i = omega arith in
      (λ j. clauses_why (none j) i variables s at (line j)) ∙ e

pub loop-i-init : goal.loop-i-init
loop-i-init c =
    let all : c.args.clauses - 0 ≡ c.args.clauses = sub-zero c.args.clauses in
    let line : c.args.first + 0 ≡ c.args.first = add-zero c.args.first in
    λ j. clauses_why (all j) 0 c.args.variables c.args.s.now c.args.from (line j)

pub returns-in_err-clause : goal.returns-in_err-clause
returns-in_err-clause c =
    let due = turn c.args.clauses c.loop-i.i c.args.variables c.args.s.now c.loop-i.at c.args.first _ c.loop-i.invariant (omega arith) in
    let clause = matched c.clause_at.ensures c.in_err-clause.ensures.ok_part in
    rw (← matched (why-broken _ c.loop-i.i _ _ c.loop-i.at _ clause) due) (search rules)

pub returns-then-clause : goal.returns-then-clause
returns-then-clause c =
    let due = turn c.args.clauses c.loop-i.i c.args.variables c.args.s.now c.loop-i.at c.args.first _ c.loop-i.invariant (omega arith) in
    let clause = matched c.clause_at.ensures c.in_ok-clause.ensures.ok_part in
    matched (why-bad _ c.loop-i.i _ _ c.loop-i.at _ _ _ _ _ clause c.if-clause.true) due

pub loop-i-preserved : goal.loop-i-preserved
loop-i-preserved c =
    let due = turn c.args.clauses c.loop-i.i c.args.variables c.args.s.now c.loop-i.at c.args.first _ c.loop-i.invariant (omega arith) in
    let clause = matched c.clause_at.ensures c.in_ok-clause.ensures.ok_part in
    let one : suc c.loop-i.i ≡ c.loop-i.i + 1 = omega arith in
    let line : c.args.first + c.loop-i.i + 1 ≡ c.args.first + (c.loop-i.i + 1) = omega arith in
    let left = c.args.clauses - (c.loop-i.i + 1) in
    let next = why-next left c.loop-i.i c.args.variables c.args.s.now c.loop-i.at _ _ _ _ _ clause c.if-clause.false in
    matched (next ∙ (λ j. clauses_why left (one j) c.args.variables c.args.s.now c.in_ok-clause.clause.next (line j))) due

pub returns-then-ends : goal.returns-then-ends
returns-then-ends c =
    let due = last c.args.clauses c.loop-i.i c.args.variables c.args.s.now c.loop-i.at c.args.first _ c.loop-i.invariant (omega arith) (omega arith) in
    matched (why-end c.loop-i.i _ _ c.loop-i.at _ (matched c.ends.ensures c.if-ends.true)) due

pub returns : goal.returns
returns c =
    let due = last c.args.clauses c.loop-i.i c.args.variables c.args.s.now c.loop-i.at c.args.first _ c.loop-i.invariant (omega arith) (omega arith) in
    matched (why-surplus c.loop-i.i _ _ c.loop-i.at _ (matched c.ends.ensures c.if-ends.false)) due
