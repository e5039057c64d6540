use Rattle.std.specs.Prelude.{Option}
use Prim.Native.Nat.{ℕ, suc, ◌+◌, ◌-◌, ◌<◌}
use mathlib.Core.Path.{◌≡◌, ap, ◌∙◌}
use mathlib.Core.Bool.{Bool, false}
use mathlib.Core.List.{List}
use native.Mathlib.Omega.{arith}
use native.Mathlib.Nat.{sub-zero}
use lib.ListN.{length}
use Rattle.literals.specs.declared.Lits.{Lits}
use Rattle.rules.specs.WcnfReader.{members_from}
use Rattle.text_laws.proofs.Matched.{matched}
use Rattle.wcnf_pieces.specs.declared.Gathered.{Gathered}
use Rattle.wcnf_pieces.specs.Clauses.{gathered}
use Rattle.wcnf_pieces.proofs.Members.{gather-end, gather-stuck, gather-closing, gather-on}
use Rattle.wcnf_pieces.proofs.clauses.members_from.Goals as goal

-- one turn of those that are left
turn : (variables : ℕ) (lits : Lits) (above : Bool) (s : List ℕ) (i at : ℕ) (all : Option Gathered) → i < length s
    → gathered variables lits above (members_from (length s - i) s at) ≡ all
    → gathered variables lits above (members_from (suc (length s - (i + 1))) s at) ≡ all
turn variables lits above s i at all h e =
    let left : suc (length s - (i + 1)) ≡ length s - i = omega arith in
    ap (λ (j : ℕ). gathered variables lits above (members_from j s at)) left ∙ e

pub loop-turn-init : goal.loop-turn-init
loop-turn-init c =
    let all : length c.args.s.now - 0 ≡ length c.args.s.now = sub-zero (length c.args.s.now) in
    λ j. gathered c.args.variables (c.none-lits.ensures j) false (members_from (all j) c.args.s.now c.args.from)

pub returns-in_err-size : goal.returns-in_err-size
returns-in_err-size c =
    let due = turn c.args.variables c.loop-turn.lits c.loop-turn.above c.args.s.now c.loop-turn._turn c.loop-turn.at _ (omega arith) c.loop-turn.invariant in
    let member = matched c.member_at.ensures c.in_err-size.was in
    c.from_residual.ensures ∙ matched (gather-stuck _ c.loop-turn.lits c.loop-turn.above _ c.loop-turn.at _ member) due

pub returns-then-size-eq0 : goal.returns-then-size-eq0
returns-then-size-eq0 c =
    let due = turn c.args.variables c.loop-turn.lits c.loop-turn.above c.args.s.now c.loop-turn._turn c.loop-turn.at _ (omega arith) c.loop-turn.invariant in
    let member = matched c.member_at.ensures c.in_ok-size.was in
    c.closed.ensures ∙ matched (gather-closing _ c.loop-turn.lits c.loop-turn.above _ c.loop-turn.at _ _ _ _ member c.if-size-eq0.true) due

pub loop-turn-preserved : goal.loop-turn-preserved
loop-turn-preserved c =
    let due = turn c.args.variables c.loop-turn.lits c.loop-turn.above c.args.s.now c.loop-turn._turn c.loop-turn.at _ (omega arith) c.loop-turn.invariant in
    let member = matched c.member_at.ensures c.in_ok-size.was in
    let adds = gather-on _ c.loop-turn.lits c.loop-turn.above _ c.loop-turn.at _ _ _ _ member in
    matched (adds _ _ c.if-size-eq0.false c.lits_of_signed.ensures c.with_member-lits.ensures) due

pub returns : goal.returns
returns c =
    let none : 0 ≡ length c.args.s.now - c.loop-turn._turn = omega arith in
    let left = ap (λ (j : ℕ). gathered c.args.variables c.loop-turn.lits c.loop-turn.above (members_from j c.args.s.now c.loop-turn.at)) none in
    matched (gather-end c.args.variables c.loop-turn.lits c.loop-turn.above c.args.s.now c.loop-turn.at) (left ∙ c.loop-turn.invariant)
