-- Every row of the table of competition files gives what it says. antt computes it.
use lib.Dec.{T}
use Rattle.masks.specs.Masks.{bit, has, count, without, none, below, single}
use Rattle.masks.specs.Sums.{sum, every}
use Rattle.literals.specs.Literal.{size, is_positive, bit_of, lits_of}
use Rattle.literals.specs.Lits.{no_lits, together, less, variables_of, is_empty, same_lits}
use Rattle.rules.specs.Table.{row_words_of, row_in, row_of, row_count, is_hard, bad_table, bad_lits, bad_mark, bad_weight, row_why, rows_why, sum_too_large, table_why}
use Rattle.rules.specs.Desk.{row_place, desk_words, row_on, weight_on, load_why, load_step, decisions, satisfied, remnant}
use Rattle.rules.specs.Bound.{weight_where, lost_beyond, lost, unit_weight, foreseen_at, foreseen, bound, lost_hard, dead}
use Rattle.rules.specs.Walk.{fixed, visited, kept_at, halted, walk, undecided, at_start, walk_of}
use Rattle.rules.specs.Text.{bytes, digits, number_text, line}
use Rattle.rules.specs.Reader.{stands, is_digit, digit_run, value_of, number_at}
use Rattle.rules.specs.Program.{program_desk}
use Rattle.rules.specs.Wcnf.{top_of, spaced_literal, spaced_lits, clause_text, clauses_text, wcnf_text}
use Rattle.rules.specs.WcnfReader.{space_run, parted_at, feed_from, header_at, header_from, header_of}
use Rattle.rules.specs.WcnfReader.{members_from, lits_of_members, some_above, bad_members, clauses_why, wcnf_read_why, clauses_words, wcnf_words, wcnf_read}
use Rattle.rules.specs.WcnfProgram.{wcnf_refusal_text, wcnf_found_text, wcnf_outcome_of, wcnf_answer}
use Rattle.rules.specs.Examples.{all_right}
use Rattle.wcnf_laws.specs.Examples.{examples}

pub examples-right : T (all_right examples)
unfolding bit has count without none below single sum every size is_positive bit_of lits_of no_lits together less variables_of is_empty same_lits
    row_words_of row_in row_of row_count is_hard bad_table bad_lits bad_mark bad_weight row_why rows_why sum_too_large table_why row_place desk_words row_on weight_on
    load_why load_step decisions satisfied remnant weight_where lost_beyond lost unit_weight foreseen_at foreseen bound lost_hard dead fixed visited kept_at
    halted walk undecided at_start walk_of bytes digits number_text line stands is_digit digit_run value_of number_at program_desk top_of spaced_literal
    spaced_lits clause_text clauses_text wcnf_text space_run parted_at feed_from header_at header_from header_of members_from lits_of_members some_above bad_members
    clauses_why wcnf_read_why clauses_words wcnf_words wcnf_read wcnf_refusal_text wcnf_found_text wcnf_outcome_of wcnf_answer
examples-right = tt
