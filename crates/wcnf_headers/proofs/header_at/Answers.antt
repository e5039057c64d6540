-- `header_at` meets its contract: its first bytes, its name behind a gap, then the figures.
use Prim.Native.Nat.{◌+◌, ◌≤◌}
use mathlib.Core.Path.{refl, sym, ◌∙◌}
use native.Mathlib.Omega.{arith}
use borrow.Author.Tests.{not-true, not-false}
use lib.ListN.{length}
use Rattle.text_laws.proofs.Matched.{matched}
use Rattle.text_laws.proofs.Stands.{ends_with}
use Rattle.gaps_read.proofs.Spaces.{run-within}
use Rattle.wcnf_headers.proofs.Heading.{first_key, name_key, no-first, no_name, to-figures}
use Rattle.wcnf_headers.proofs.header_at.Goals as goal

pub returns-then-not-stands : goal.returns-then-not-stands
returns-then-not-stands c = sym (no-first c.args.s.now c.args.at c.args.line (matched c.stands.ensures (not-true _ c.if-not-stands.true-raw)))

pub overflow_add-behind : goal.overflow_add-behind
overflow_add-behind c =
    let begun : c.args.at + 2 ≤ length c.args.s.now = let first = matched c.stands.ensures (not-false _ c.if-not-stands.false-raw) in
    ends_with c.args.s.now c.args.at first_key 32 (omega arith) refl first in
    omega (arith, begun)

pub overflow_add-place : goal.overflow_add-place
overflow_add-place c =
    let begun : c.args.at + 2 ≤ length c.args.s.now = let first = matched c.stands.ensures (not-false _ c.if-not-stands.false-raw) in
    ends_with c.args.s.now c.args.at first_key 32 (omega arith) refl first in
    omega (arith, c.space_run-gap.ensures, run-within (length c.args.s.now) c.args.s.now (c.args.at + 1) (omega (arith, begun)))

pub returns-then-not-stands-2 : goal.returns-then-not-stands-2
returns-then-not-stands-2 c =
    let first = matched c.stands.ensures (not-false _ c.if-not-stands.false-raw) in
    let named = matched c.stands-2.ensures (not-true _ c.if-not-stands-2.true-raw) in
    sym (no_name c.args.s.now c.args.at c.args.line _ c.space_run-gap.ensures first named)

pub overflow_add-from : goal.overflow_add-from
overflow_add-from c =
    let named = matched c.stands-2.ensures (not-false _ c.if-not-stands-2.false-raw) in
    omega (arith, ends_with c.args.s.now (c.args.at + 1 + c.space_run-gap.result) name_key 102 (omega arith) refl named)

pub returns : goal.returns
returns c =
    let first = matched c.stands.ensures (not-false _ c.if-not-stands.false-raw) in
    let named = matched c.stands-2.ensures (not-false _ c.if-not-stands-2.false-raw) in
    c.figures_at.ensures ∙ sym (to-figures c.args.s.now c.args.at c.args.line _ c.space_run-gap.ensures first named)
