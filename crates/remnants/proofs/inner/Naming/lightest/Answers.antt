use Prim.Native.Nat.{ℕ, ◌+◌, ◌-◌, ◌<◌}
use mathlib.Core.Path.{◌≡◌, sym, ap, ◌∙◌}
use mathlib.Core.List.{List}
use native.Mathlib.Omega.{arith}
use lib.ListN.{length, get_or, take, drop, length-drop}
use lib.Seq.{length-take-le, get_or-take, get_or-drop}
use Rattle.masks.specs.Sums.{smallest}
use Rattle.masks.proofs.Sums.{smallest-empty, smallest-more}
use Rattle.rules.specs.declared.Row.{Row}
use Rattle.rules.specs.Desk.{row_on}
use Rattle.rules.specs.Rewrite.{lightest}
use Rattle.remnants.proofs.inner.Naming.lightest.Goals as goal

abbrev weights : List ℕ → List ℕ → ℕ → ℕ
weights desk named i = (row_on desk (get_or named i 0)).weight

-- the rows behind the first
abbrev behind : List ℕ → List ℕ
behind named = take (length named - 1) (drop 1 named)

length-behind : (named : List ℕ) → length (behind named) ≡ length named - 1
length-behind named = length-take-le (length named - 1) (drop 1 named) (simp length-drop (omega arith))

behind-at : (named : List ℕ) (k : ℕ) → k < length (behind named) → get_or (behind named) k 0 ≡ get_or named (k + 1) 0
behind-at named k h =
    let next : 1 + k ≡ k + 1 = omega arith in
    get_or-take (length named - 1) (drop 1 named) k 0 (omega (arith, length-behind named)) ∙ get_or-drop 1 named k 0 ∙ ap (λ (i : ℕ). get_or named i 0) next

pub row_on-least-requires : goal.row_on-least-requires
row_on-least-requires c = c.args.self.now.on_desk.inside 0 c.requires

pub loop-row-init : goal.loop-row-init
loop-row-init c = ap (λ (r : Row). r.weight) c.row_on-least.ensures ∙ sym (smallest-empty _)

pub row_on-requires : goal.row_on-requires
row_on-requires c =
    rw (behind-at c.args.self.now.named.now c.loop-row.row-index c.loop-row-test.true)
    (c.args.self.now.on_desk.inside (c.loop-row.row-index + 1) (omega (arith, length-behind c.args.self.now.named.now)))

pub loop-row-preserved : goal.loop-row-preserved
loop-row-preserved c =
    let f = weights c.args.self.now.desk.now c.args.self.now.named.now in
    let e = ap (λ (r : Row). r.weight) c.row_on.ensures
    ∙ ap (λ (i : ℕ). (row_on c.args.self.now.desk.now i).weight) (behind-at c.args.self.now.named.now c.loop-row.row-index c.loop-row-test.true) in
    c.min-least.ensures ∙ rw (c.loop-row.invariant, e) (sym (smallest-more c.loop-row.row-index f))

pub returns : goal.returns
unfolding lightest
returns c =
    let e : c.loop-row.row-index ≡ length c.args.self.now.named.now - 1 = omega (arith, length-behind c.args.self.now.named.now) in
    c.loop-row.invariant ∙ ap (λ (k : ℕ). smallest k (weights c.args.self.now.desk.now c.args.self.now.named.now)) e
