-- All definitions of the lookup: `unfolding computing_lookups` lets the checker compute one.
use Rattle.syntax.specs.Limits.{group_limit, unset, spans_length, row_length, slot, name_limit, name_entry}
use Rattle.syntax.specs.Sets.{same_bytes}
use Rattle.semantics.specs.NameIndex.{entry}
use Rattle.lookup.specs.Names.{entry_of, is_whole, name_length, name_in, is_of, first_named, group_named}
use Rattle.lookup.specs.Rows.{is_unset, span_holds, spans_hold, is_row}
use Rattle.lookup.specs.Lookup.{of_span, of_group, lookup, field_of}

unfoldable pub computing_lookups : Unit {0}
unfolding group_limit unset spans_length row_length slot name_limit name_entry same_bytes entry entry_of is_whole name_length name_in is_of first_named group_named is_unset span_holds spans_hold is_row of_span of_group lookup field_of
computing_lookups = tt
