-- The examples of the bound by groups: every row of their table gives what it says. antt computes it.
use lib.Dec.{T}
use Rattle.masks.specs.Masks.{bit, has, count, without, none, below, single}
use Rattle.masks.specs.Sums.{sum, every}
use Rattle.literals.specs.Literal.{size, is_positive, is_literal, bit_of, lits_of}
use Rattle.literals.specs.Lits.{no_lits, together, variables_of, is_empty, same_lits, is_one}
use Rattle.rules.specs.Table.{row_words_of, row_in, row_of, row_count, is_hard, bad_table, bad_lits, bad_mark, bad_weight, row_why, rows_why, sum_too_large}
use Rattle.rules.specs.Desk.{row_place, entry_place, desk_words, row_on, weight_on, reaches, in_limits, rows_sound, weight_fits, masks_nest, well_formed}
use Rattle.rules.specs.Desk.{load_why, load_step, decisions, satisfied, remnant}
use Rattle.rules.specs.Decide.{entered, bad_literal, decide_why, decision_entry, decide_step, decide_desk}
use Rattle.rules.specs.Bound.{weight_where, lost_beyond, lost, unit_weight, foreseen_at, foreseen, bound, losses_at, lost_hard, dead, desk_why}
use Rattle.rules.specs.Groups.{conflict_at, made_true, forced_at, opposes, looked, scanned, entry_scanned, drained, hunted, joined, gathered, group_of}
use Rattle.rules.specs.Groups.{less_at, taken, tallied, hunts, working_weight, hunts_on, groups_cost, groups_bound, losses_by_groups}
use Rattle.rules.specs.Choice.{choice_of}
use Rattle.rules.specs.Walk.{fixed, visited, kept_at, halted, walk, undecided, at_start, walk_of, searched}
use Rattle.rules.specs.Text.{bytes, digits, number_text, line, behind, lits_text}
use Rattle.rules.specs.Program.{losses_text, found_text, program_desk}
use Rattle.rules.specs.Calls.{after_call}
use Rattle.rules.specs.Examples.{all_right}
use Rattle.rules.specs.GroupExamples.{group_examples}

pub group-examples-right : T (all_right group_examples)
unfolding bit has count without none below single sum every size is_positive is_literal bit_of lits_of no_lits together variables_of is_empty same_lits is_one
    row_words_of row_in row_count bad_lits row_place entry_place desk_words row_on weight_on reaches in_limits rows_sound weight_fits masks_nest well_formed load_step
    decisions satisfied remnant entered bad_literal decide_why decision_entry decide_step decide_desk weight_where lost_beyond lost unit_weight foreseen_at
    foreseen bound conflict_at made_true forced_at opposes looked scanned entry_scanned drained hunted joined gathered group_of less_at taken tallied hunts
    working_weight hunts_on groups_cost groups_bound losses_at losses_by_groups desk_why choice_of fixed visited kept_at halted walk undecided at_start walk_of
    searched bytes digits number_text line behind lits_text losses_text found_text program_desk load_why row_of is_hard bad_mark lost_hard dead
    bad_table bad_weight row_why rows_why sum_too_large after_call
group-examples-right = tt
