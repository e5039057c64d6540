-- `entry_scan` meets its contract: an entry has one variable, so that what is against it is one literal.
use Prim.Native.Nat.{◌<◌}
use mathlib.Core.Path.{sym, ◌∙◌}
use native.Mathlib.Omega.{arith}
use lib.ListN.{get_or}
use Rattle.masks.proofs.Counts.{count-le}
use Rattle.looking.proofs.Looking.{against-none, against-one}
use Rattle.hunts.proofs.Scanning.{entry-scan}
use Rattle.hunts.proofs.inner.entry_scan.Goals as goal

pub offset_bounds-masks-k : goal.offset_bounds-masks-k
offset_bounds-masks-k c =
    let within : c.args.k < 64 = omega (arith, c.requires.roomy.short, c.requires.k_lt_entries.0, count-le c.args.start.q.decided) in
    omega (arith, within)

pub bounds-masks-k : goal.bounds-masks-k
bounds-masks-k c =
    let within : c.args.k < 64 = omega (arith, c.requires.roomy.short, c.requires.k_lt_entries.0, count-le c.args.start.q.decided) in
    omega (arith, within, c.requires.roomy.lent.masks)

pub returns-then-without-eq0 : goal.returns-then-without-eq0
returns-then-without-eq0 c =
    record {
      rows_after = entry-scan _ _ _ _ c.args.k c.args.start c.args.masks.now c.args.rows.now c.requires.k_lt_entries.0 _
          (against-none (get_or c.args.masks.now c.args.k 0) c.args.start.q.truths (sym c.without.ensures ∙ c.if-without-eq0.true))
          c.negative_scan.ensures.rows_after;
      roomy_2 = c.negative_scan.ensures.roomy_2;
    }

pub returns : goal.returns
returns c =
    record {
      rows_after = entry-scan _ _ _ _ c.args.k c.args.start c.args.masks.now c.args.rows.now c.requires.k_lt_entries.0 _
          (against-one (get_or c.args.masks.now c.args.k 0) c.args.start.q.truths (omega (arith, c.slice_known-1.given c.args.k))
          (c.requires.roomy.single c.args.k c.requires.k_lt_entries.0) (λ z. c.if-without-eq0.false (c.without.ensures ∙ z)))
          c.literal_scan.ensures.rows_after;
      roomy_2 = c.literal_scan.ensures.roomy_2;
    }
