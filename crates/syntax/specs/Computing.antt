-- All definitions of the reading of a rule: `unfolding computing_readings` lets the checker compute one.
use Rattle.charset.specs.Named.{ranges, in_range, in_ranges, in_named}
use Rattle.charset.specs.Cases.{other_case, folding}
use Rattle.syntax.specs.Limits.{dot_all_bit, multiline_bit, ignore_case_bit, extended_bit, depot_bit, group_limit, nesting_limit, bound_limit, byte_limit, length_limit, branch_limit, name_limit, unset}
use Rattle.syntax.specs.Read.{byte, is_end}
use Rattle.syntax.specs.Sets.{namings, same_bytes, lookup, set_named, is_member, is_any, in_class, only, not_newline, any_byte}
use Rattle.syntax.specs.Tree.{branch_count, alternatives, enclosed, possessive, return_or_feeds, line_break}
use Rattle.syntax.specs.Numbers.{run, digit_value, is_digit, digits, value_from, value, is_none}
use Rattle.syntax.specs.Flags.{dot_all, multiline, ignore_case, extended, depot}
use Rattle.syntax.specs.Names.{word_at, is_name, name_up_to, is_used, fresh, group_called}
use Rattle.syntax.specs.Escapes.{called, calls_by_name, byte_of, braced, hex, braced_octal, octal, flip64, control, meanings, letter, common, class_escape, forward, backward, decimal, signed, group_number, escape}
use Rattle.syntax.specs.Classes.{letters, posix_member, posix_name, posix, element, range_end, alike, range_of, makes_range, member, members, class}
use Rattle.syntax.specs.Quantifiers.{with_greed, at_least, from_to, upper, braces, quantifier}
use Rattle.syntax.specs.Grammar.{skipped, behind_blanks, atom, closing, capturing, uncaptured, grouped, whole, with_item, unfit_for, repeating, breaks_line, next_item, part, ends, sequence, branch, further, alternation, inside}
use Rattle.syntax.specs.Lengths.{capped, item_length, least_length, shortest, unbounded}
use Rattle.syntax.specs.Reading.{parsed, names_read, names_of, first_some, dangling, unresolved, unresolved_in, idle, idle_in, unless, profiled, settled, reading}
use Rattle.syntax.specs.Checkable.{lowest, unfollowed, unfollowed_in, crowded_at, crowded, crowded_in, or_else, uncheckable}

unfoldable pub computing_readings : Unit {0}
unfolding ranges in_range in_ranges in_named other_case folding dot_all_bit multiline_bit ignore_case_bit extended_bit depot_bit group_limit nesting_limit bound_limit byte_limit length_limit branch_limit name_limit unset byte is_end namings same_bytes lookup set_named is_member is_any in_class only not_newline any_byte branch_count alternatives enclosed possessive return_or_feeds line_break run digit_value is_digit digits value_from value is_none word_at is_name name_up_to is_used fresh group_called byte_of braced hex braced_octal octal flip64 control meanings letter common class_escape forward backward decimal signed group_number called calls_by_name escape letters posix_member posix_name posix element range_end alike range_of makes_range member members class with_greed at_least from_to upper braces quantifier dot_all multiline ignore_case extended depot skipped behind_blanks atom closing capturing uncaptured grouped whole with_item unfit_for repeating breaks_line next_item part ends sequence branch further alternation inside parsed names_read names_of first_some dangling unresolved unresolved_in capped item_length least_length shortest unbounded idle idle_in unless profiled settled reading lowest unfollowed unfollowed_in crowded_at crowded crowded_in or_else uncheckable
computing_readings = tt
