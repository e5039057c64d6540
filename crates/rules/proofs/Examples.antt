-- P1 to P10, and the further examples beside them: every row of the one table gives what it says. antt computes it.
use mathlib.Core.List.{◌++◌}
use lib.Dec.{T}
use Rattle.masks.specs.Masks.{bit, has, count, without, none, below, single}
use Rattle.masks.specs.Sums.{sum, every, smallest}
use Rattle.masks.specs.Words.{zeroed}
use Rattle.literals.specs.Literal.{size, is_positive, is_literal, opposite, bit_of, lits_of, offered}
use Rattle.literals.specs.Lits.{no_lits, negated_lits, together, less, variables_of, is_empty, same_lits, is_one}
use Rattle.rules.specs.Bound.{weight_where, lost_beyond, lost, unit_weight, foreseen_at, foreseen, bound, losses_at, lost_hard, dead, desk_why}
use Rattle.rules.specs.Choice.{bounded}
use Rattle.rules.specs.Calls.{after_call, after_calls}
use Rattle.rules.specs.Decide.{entered, bad_literal, decide_why, decision_entry, decide_step, decide_desk}
use Rattle.rules.specs.Rewrite.{rewrite_desk}
use Rattle.rules.specs.TakeBack.{take_back_desk}
use Rattle.rules.specs.Desk.{row_place, entry_place, desk_words, row_on, set_row, set_weight, weight_on, reaches, in_limits, rows_sound, weight_fits}
use Rattle.rules.specs.Desk.{masks_nest, well_formed, load_why, load_step, load_desk, decisions, satisfied, remnant, spent, desk_weighs, keeps}
use Rattle.rules.specs.Program.{refusal_text, losses_text, found_text, program_desk, outcome_of, answer}
use Rattle.rules.specs.Reader.{stands, is_digit, digit_run, value_of, number_at, number_line, literal_at, with_literal, lits_from, lits_line, mark_line, row_at}
use Rattle.rules.specs.Reader.{rows_at, head_at, read_why, read_words, read_step, text_read}
use Rattle.rules.specs.Table.{row_words_of, row_in, row_of, row_count, holds, given_up, weighs, bad_table, bad_lits, bad_weight, row_why, rows_why}
use Rattle.rules.specs.Table.{is_hard, breaks, hard_hold, bad_mark, sum_too_large, table_why, weigh_why, weighed}
use Rattle.rules.specs.Rewrite.{shows, lit, links, compensating}
use Rattle.rules.specs.Steps.{fewest, most, fewer_added, concedes, count_fits, distinct, well_named, remnant_of}
use Rattle.rules.specs.Rewrite.{clash, apart_from, forked, merges, shifts, chains, forks, fits, gives, given, well_fitted}
use Rattle.rules.specs.Steps.{stored, empties}
use Rattle.rules.specs.Rewrite.{rewrite_why, lightest, laid, rewriting_entry, rewrite_step}
use Rattle.rules.specs.Steps.{reweighed}
use Rattle.rules.specs.TakeBack.{last_place, last_kind, last_variable, last_weight, last_count, last_named, last_first, merged_empty, last_conceded}
use Rattle.rules.specs.TakeBack.{withdrawn, undo_decision, undo_rewriting, take_back_step, bad_decision, bad_rewriting, bad_last, take_back_why}
use Rattle.rules.specs.Text.{bytes, digits, number_text, line, behind, lits_text, row_text, rows_text, table_text, text_why, text_written, text_out}
use Rattle.rules.specs.Walk.{fixed, visited, kept_at, halted, walk, undecided, at_start, walk_of, searched}
use Rattle.rules.specs.Figures.{figures}
use Rattle.rules.specs.Examples.{all_right, examples}
use Rattle.rules.specs.Further.{further}

pub examples-right : T (all_right (examples ++ further))
unfolding bit has count without none below single sum every smallest zeroed size is_positive is_literal opposite bit_of lits_of offered no_lits negated_lits
    together less variables_of is_empty same_lits is_one weight_where lost_beyond lost unit_weight foreseen_at foreseen bound losses_at desk_why bounded after_call
    after_calls entered bad_literal decide_why decision_entry decide_step decide_desk rewrite_desk take_back_desk row_place entry_place desk_words row_on set_row
    set_weight weight_on reaches in_limits rows_sound weight_fits masks_nest well_formed load_why load_step load_desk decisions satisfied remnant spent
    desk_weighs keeps refusal_text losses_text found_text program_desk
    outcome_of answer stands is_digit digit_run value_of number_at number_line literal_at with_literal lits_from lits_line row_at row_words_of rows_at head_at read_why
    read_words read_step text_read fewest most fewer_added concedes count_fits distinct well_named remnant_of shows lit links compensating clash apart_from
    forked merges shifts chains forks fits gives stored empties given well_fitted rewrite_why lightest reweighed laid rewriting_entry rewrite_step row_in
    row_of row_count holds given_up weighs breaks hard_hold is_hard bad_mark lost_hard dead mark_line bad_table bad_lits bad_weight row_why rows_why sum_too_large
    table_why weigh_why weighed last_place last_kind
    last_variable last_weight last_count last_named last_first merged_empty last_conceded withdrawn undo_decision undo_rewriting take_back_step bad_decision
    bad_rewriting bad_last take_back_why bytes digits number_text line behind lits_text row_text rows_text table_text text_why text_written text_out fixed visited
    kept_at halted walk undecided at_start walk_of searched figures
examples-right = tt
