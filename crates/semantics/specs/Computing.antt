-- All definitions of the calls: `unfolding computing_calls` lets the checker compute one.
use Rattle.syntax.specs.Limits.{rule_limit, subject_limit, budget_limit, rule_area_need, work_per_step, flag_bits, unset, spans_length, row_length, part_length, slot, name_entry, name_index_need}
use Rattle.syntax.specs.Computing.{computing_readings}
use Rattle.semantics.specs.Assertions.{byte_before, is_newline, is_word, exactly_one, holds}
use Rattle.semantics.specs.States.{starting, chose, moved, closed, row}
use Rattle.semantics.specs.Items.{when, same_byte, same_at, refer, compared, paid_for, toll, try}
use Rattle.semantics.specs.Repeats.{is_full, allowed, decision}
use Rattle.semantics.specs.Walk.{◌▹◌, done, tried, paying, decide, to_first, ending, entering, rounds, enough, walk, walks, trace}
use Rattle.semantics.specs.Runs.{moment, meets, spend, run, runs}
use Rattle.semantics.specs.Answers.{unmatched, one_step_more, first, answer, known, unless, fresh, unfilled, plainly, with_row, fill, listing}
use Rattle.semantics.specs.NameIndex.{name_of, entry, entries, name_index}
use Rattle.semantics.specs.Explanations.{failed, failed_from, failures, greater, greatest, nowhere, or_nowhere, furthest, closest, places_at, marked, marks}
use Rattle.semantics.specs.Scans.{is_empty, barring, tries, search_from, row_then, on_from, scan_from, tries_left, scan}
use Rattle.semantics.specs.Calls.{work_area_need, unacceptable, over, cleared, untouched, declined, leaving, with_reading, unless_refused, call, match_returns, match_rule, match_call, list_outcome, joined, room, list_rule, list_call, scan_rule, scan_call, markable, explain_returns, explain_rule, explain_call}
use Rattle.semantics.specs.Proposals.{◌▸◌, steps_then, behind, choosing, either_way, settling, laps, follow, follow_in, path_of, unless_left, one_more, within, startless, start_of, check}
use Rattle.semantics.specs.Checks.{check_returns, unless_uncheckable, check_rule, check_call}
use Rattle.semantics.specs.Batches.{before, lines_of, low, high, outcome_numbers, told, part_of, parts, parts_need, batch_rule, batch_call}

unfoldable pub computing_calls : Unit {0}
unfolding computing_readings rule_limit subject_limit budget_limit rule_area_need work_per_step flag_bits unset spans_length row_length part_length name_entry name_index_need byte_before is_newline is_word exactly_one holds slot starting chose moved closed row when same_byte same_at refer compared paid_for toll try is_full allowed decision ◌▹◌ done tried paying decide to_first ending entering rounds enough walk walks trace moment meets spend run runs unmatched one_step_more first answer known unless fresh unfilled plainly with_row fill listing name_of entry entries name_index failed failed_from failures greater greatest nowhere or_nowhere furthest closest places_at marked marks is_empty barring tries search_from row_then on_from scan_from tries_left scan work_area_need unacceptable over cleared untouched declined leaving with_reading unless_refused call match_returns match_rule match_call list_outcome joined room list_rule list_call scan_rule scan_call markable explain_returns explain_rule explain_call ◌▸◌ steps_then behind choosing either_way settling laps follow follow_in path_of unless_left one_more within startless start_of check check_returns unless_uncheckable check_rule check_call before lines_of low high outcome_numbers told part_of parts parts_need batch_rule batch_call
computing_calls = tt
