-- `undo_rewriting` meets its contract: the named rows regain w, the new rows are zeroed, then head and entry are released.
-- An accepted taking back says what each of these calls asks; the desk between two calls is one of `Undo`.
use Prim.Native.Nat.{ℕ}
use mathlib.Core.Path.{◌≡◌, sym, ap, ◌∙◌, subst}
use mathlib.Core.Bool.{true}
use native.Mathlib.Omega.{arith}
use lib.ListN.{length, take}
use Rattle.rules.specs.Desk.{row_place, desk_words}
use Rattle.rules.specs.TakeBack.{last_weight, last_count, last_first}
use Rattle.words.specs.Room.{StepStands}
use Rattle.named.specs.Reweigh.{Reweighable}
use Rattle.last_entry.proofs.Lasts.{first_word}
use Rattle.taking_back.proofs.Undo.{taken, standing-still, steps-still, head-fits, entry-good, few-rows, use-fits, can-regain, named-length}
use Rattle.taking_back.proofs.Undo.{regained-same, regained, freed-same, freed, undone-whole, length-regained, stands_after}
use Rattle.taking_back.proofs.inner.undo_rewriting.Goals as goal

pub bounds-desk-1 : goal.bounds-desk-1
bounds-desk-1 c = omega (arith, head-fits _ c.requires.desk_value)

pub last_word-w-requires : goal.last_word-w-requires
last_word-w-requires c =
    record {
      step_stands = steps-still _ c.requires.desk_value;
      k_lt_entry_words = omega arith;
    }

pub last_word-n-requires : goal.last_word-n-requires
last_word-n-requires c =
    record {
      step_stands = steps-still _ c.requires.desk_value;
      k_lt_entry_words = omega arith;
    }

pub last_word-first-requires : goal.last_word-first-requires
last_word-first-requires c =
    record {
      step_stands = steps-still _ c.requires.desk_value;
      k_lt_entry_words = omega arith;
    }

pub bounds-desk-4 : goal.bounds-desk-4
bounds-desk-4 c = omega (arith, head-fits _ c.requires.desk_value)

pub conceded_by-requires : goal.conceded_by-requires
conceded_by-requires c = standing-still _ c.requires.desk_value

pub overflow_sub-conceded : goal.overflow_sub-conceded
overflow_sub-conceded c = omega (arith, c.conceded_by.ensures, (entry-good _ c.requires.desk_value c.requires.desk_nonzero).less)

pub last_rows-rows-requires : goal.last_rows-rows-requires
last_rows-rows-requires c = steps-still _ c.requires.desk_value

pub slice_bounds-rows-end : goal.slice_bounds-rows-end
unfolding last_count
slice_bounds-rows-end c =
    let count-told : c.last_word-n.result ≡ last_count c.args.desk.now = c.last_word-n.ensures in
    omega (arith, count-told, few-rows _ c.requires.desk_value c.requires.desk_nonzero)

pub slice_bounds-reweigh-end : goal.slice_bounds-reweigh-end
unfolding last_count
slice_bounds-reweigh-end c =
    let count-told : c.last_word-n.result ≡ last_count c.args.desk.now = c.last_word-n.ensures in
    rw count-told
    (sym (named-length c.args.desk.now c.requires.desk_value c.requires.desk_nonzero c.last_rows-rows.result (omega arith)
    c.last_rows-rows.ensures))

pub reweigh-requires : goal.reweigh-requires
unfolding last_weight last_count
reweigh-requires c =
    let weight-told : c.last_word-w.result ≡ last_weight c.args.desk.now = c.last_word-w.ensures in
    let count-told : c.last_word-n.result ≡ last_count c.args.desk.now = c.last_word-n.ensures in
    subst (λ (w : ℕ). Reweighable c.args.desk.now (take c.last_word-n.result c.last_rows-rows.result) w true) (sym weight-told)
    (subst (λ (n : ℕ). Reweighable c.args.desk.now (take n c.last_rows-rows.result) (last_weight c.args.desk.now) true) (sym count-told)
    (can-regain c.args.desk.now c.requires.desk_value c.requires.desk_nonzero c.last_rows-rows.result (omega arith) c.last_rows-rows.ensures))

pub overflow_sub-in_use : goal.overflow_sub-in_use
overflow_sub-in_use c =
    let first-told : c.last_word-first.result ≡ last_first c.args.desk.now = c.last_word-first.ensures ∙ first_word c.args.desk.now in
    omega (arith, first-told, use-fits _ c.requires.desk_value c.requires.desk_nonzero)

pub zero_rows-requires : goal.zero_rows-requires
unfolding desk_words row_place last_weight last_count
zero_rows-requires c =
    let weight-told : c.last_word-w.result ≡ last_weight c.args.desk.now = c.last_word-w.ensures in
    let count-told : c.last_word-n.result ≡ last_count c.args.desk.now = c.last_word-n.ensures in
    let regained-told : c.reweigh.new.desk ≡ regained _ c.requires.desk_value c.requires.desk_nonzero = regained-same _ c.requires.desk_value c.requires.desk_nonzero c.last_rows-rows.result (omega arith) c.last_rows-rows.ensures weight-told
    count-told c.reweigh.ensures in
    let first-told : c.last_word-first.result ≡ last_first c.args.desk.now = c.last_word-first.ensures ∙ first_word c.args.desk.now in
    let desk = (taken _ c.requires.desk_value).desk in
    let long = ap length regained-told ∙ length-regained _ c.requires.desk_value c.requires.desk_nonzero in
    omega (arith, first-told, use-fits _ c.requires.desk_value c.requires.desk_nonzero, long, desk.reaching, desk.fitting)

pub release-requires : goal.release-requires
unfolding last_weight last_count
release-requires c =
    let first-told : c.last_word-first.result ≡ last_first c.args.desk.now = c.last_word-first.ensures ∙ first_word c.args.desk.now in
    let weight-told : c.last_word-w.result ≡ last_weight c.args.desk.now = c.last_word-w.ensures in
    let count-told : c.last_word-n.result ≡ last_count c.args.desk.now = c.last_word-n.ensures in
    let regained-told : c.reweigh.new.desk ≡ regained _ c.requires.desk_value c.requires.desk_nonzero = regained-same _ c.requires.desk_value c.requires.desk_nonzero c.last_rows-rows.result (omega arith) c.last_rows-rows.ensures weight-told
    count-told c.reweigh.ensures in
    let freed-told : c.zero_rows.new.desk ≡ freed _ c.requires.desk_value c.requires.desk_nonzero = freed-same _ c.requires.desk_value c.requires.desk_nonzero first-told regained-told c.zero_rows.ensures in
    subst StepStands (sym freed-told) (stands_after _ c.requires.desk_value c.requires.desk_nonzero)

pub returns : goal.returns
unfolding last_weight last_count
returns c =
    let first-told : c.last_word-first.result ≡ last_first c.args.desk.now = c.last_word-first.ensures ∙ first_word c.args.desk.now in
    let weight-told : c.last_word-w.result ≡ last_weight c.args.desk.now = c.last_word-w.ensures in
    let count-told : c.last_word-n.result ≡ last_count c.args.desk.now = c.last_word-n.ensures in
    let regained-told : c.reweigh.new.desk ≡ regained _ c.requires.desk_value c.requires.desk_nonzero = regained-same _ c.requires.desk_value c.requires.desk_nonzero c.last_rows-rows.result (omega arith) c.last_rows-rows.ensures weight-told
    count-told c.reweigh.ensures in
    let freed-told : c.zero_rows.new.desk ≡ freed _ c.requires.desk_value c.requires.desk_nonzero = freed-same _ c.requires.desk_value c.requires.desk_nonzero first-told regained-told c.zero_rows.ensures in
    undone-whole _ c.requires.desk_value c.requires.desk_nonzero first-told c.conceded_by.ensures freed-told
    c.release.ensures
