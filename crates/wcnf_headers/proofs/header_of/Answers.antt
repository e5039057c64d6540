use Prim.Native.Nat.{ℕ, suc, ◌+◌, ◌-◌, ◌≤◌}
use mathlib.Core.Path.{◌≡◌, refl, ap, ◌∙◌}
use mathlib.Core.List.{List}
use native.Mathlib.Nat.{sub-zero}
use native.Mathlib.Omega.{arith}
use lib.ListN.{length}
use Rattle.rules.specs.WcnfReader.{header_from, header_of}
use Rattle.text_laws.proofs.Matched.{matched, unmatched}
use Rattle.wcnf_headers.proofs.Heading.{head-none, head-here, head-unended, head-on}
use Rattle.wcnf_headers.proofs.header_of.Goals as goal

starts : (s : List ℕ) → header_from (suc (length s) - 0) s 0 1 ≡ header_of s
unfolding header_of
starts s = ap (λ (k : ℕ). header_from k s 0 1) (sub-zero (suc (length s)))

-- one turn of those that are left
turn : (s : List ℕ) (i at line : ℕ) → i ≤ length s → header_from (suc (length s) - i) s at line ≡ header_of s
    → header_from (suc (length s - i)) s at line ≡ header_of s
turn s i at line h e =
    let left : suc (length s - i) ≡ suc (length s) - i = omega arith in
    ap (λ (k : ℕ). header_from k s at line) left ∙ e

pub loop-turn-init : goal.loop-turn-init
loop-turn-init c = (refl, starts c.args.s.now)

pub returns-then-byte_at-ne99 : goal.returns-then-byte_at-ne99
returns-then-byte_at-ne99 c =
    let due = turn c.args.s.now c.loop-turn._turn c.loop-turn.at c.loop-turn.line (omega arith) c.loop-turn.invariant.1 in
    let plain = unmatched c.byte_at.ensures c.if-byte_at-ne99.true in
    c.header_at.ensures ∙ matched (head-here _ _ c.loop-turn.at c.loop-turn.line plain) due

pub returns-then-feed-s : goal.returns-then-feed-s
returns-then-feed-s c =
    let due = turn c.args.s.now c.loop-turn._turn c.loop-turn.at c.loop-turn.line (omega arith) c.loop-turn.invariant.1 in
    let comment = matched c.byte_at.ensures c.if-byte_at-ne99.false in
    matched (head-unended _ _ c.loop-turn.at c.loop-turn.line _ c.feed_from-feed.ensures comment c.if-feed-s.true) due

pub loop-turn-preserved : goal.loop-turn-preserved
loop-turn-preserved c =
    let due = turn c.args.s.now c.loop-turn._turn c.loop-turn.at c.loop-turn.line (omega arith) c.loop-turn.invariant.1 in
    let comment = matched c.byte_at.ensures c.if-byte_at-ne99.false in
    let left : length c.args.s.now - c.loop-turn._turn ≡ suc (length c.args.s.now) - (c.loop-turn._turn + 1) = omega arith in
    let next = head-on _ c.args.s.now c.loop-turn.at c.loop-turn.line _ c.feed_from-feed.ensures comment c.if-feed-s.false in
    (omega (arith, c.loop-turn.invariant.0), rw (← left) (matched next due))

pub returns-else-feed-s : goal.returns-else-feed-s
returns-else-feed-s c =
    let due = turn c.args.s.now c.loop-turn._turn c.loop-turn.at c.loop-turn.line (omega arith) c.loop-turn.invariant.1 in
    let comment = matched c.byte_at.ensures c.if-byte_at-ne99.false in
    let none : length c.args.s.now - c.loop-turn._turn ≡ 0 = omega arith in
    let next = head-on _ c.args.s.now c.loop-turn.at c.loop-turn.line _ c.feed_from-feed.ensures comment c.if-feed-s.false in
    matched (head-none c.args.s.now _ _) (rw none at (matched next due))
