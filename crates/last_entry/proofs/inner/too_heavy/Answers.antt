-- `too_heavy` meets its contract: a w over the limit is too much by itself, and below it no sum wraps.
use Rattle.rules.specs.Table.{most_weight}
use Rattle.rules.specs.Desk.{row_place, desk_words}
use Prim.Native.Nat.{◌<◌}
use mathlib.Core.Path.{sym}
use native.Mathlib.Omega.{arith}
use Rattle.rules.specs.TakeBack.{last_weight}
use Rattle.last_entry.specs.Last.{over_after}
use Rattle.last_entry.proofs.Lasts.{step-stands, whole, heavy-alone, times-fits}
use Rattle.last_entry.proofs.inner.too_heavy.Goals as goal

pub last_word-w-requires : goal.last_word-w-requires
last_word-w-requires c =
    record {
      step_stands = step-stands _ c.requires.stands;
      k_lt_entry_words = omega arith;
    }

pub returns-then-w-gt-MOST_WEIGHT : goal.returns-then-w-gt-MOST_WEIGHT
unfolding over_after last_weight
returns-then-w-gt-MOST_WEIGHT c =
    let weighty : most_weight < c.last_word-w.result → most_weight < last_weight c.args.desk.now = λ h. omega (arith, c.last_word-w.ensures) in
    sym (heavy-alone c.args.start c.args.n (last_weight c.args.desk.now) _ c.requires.some (weighty c.if-w-gt-MOST_WEIGHT.true))

pub overflow_mul-n : goal.overflow_mul-n
overflow_mul-n c = record { fits = omega (arith, times-fits c.args.n c.last_word-w.result c.requires.few c.if-w-gt-MOST_WEIGHT.false) }

pub overflow_add-start : goal.overflow_add-start
overflow_add-start c = omega (arith, times-fits c.args.n c.last_word-w.result c.requires.few c.if-w-gt-MOST_WEIGHT.false, c.requires.start_fits)

pub over-requires : goal.over-requires
unfolding desk_words row_place
over-requires c =
    let f = whole _ c.requires.stands in
    omega (arith, f.reaching, f.fitting, c.requires.in_use_fits)

pub returns : goal.returns
unfolding over_after last_weight
returns c = rw (← c.last_word-w.ensures) c.over.ensures
