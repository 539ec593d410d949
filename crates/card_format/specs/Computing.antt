-- All definitions of cards and of the calls: `unfolding computing_cards` lets the checker compute one.
use Rattle.syntax.specs.Limits.{rule_limit, rule_area_need, flag_bits}
use Rattle.syntax.specs.Computing.{computing_readings}
use Rattle.semantics.specs.Calls.{over, cleared}
use Rattle.card_format.specs.Cards.{in_bytes, bodies, two_bytes, of_two, pieces_for, settings, padded, pieces, size_of, written, card_need, rule_bytes_need, body_length, behind, cut_from, cutting, in_order, all_zero, text, is_tidy, setting, said_by, scanned, card_in, rule_in, untouched, leaving, unfit, with_reading, unless_unfit, ruled, writes, write_call, reads, read_scan, read_call}

unfoldable pub computing_cards : Unit {0}
unfolding computing_readings rule_limit rule_area_need flag_bits over cleared in_bytes bodies two_bytes of_two pieces_for settings padded pieces size_of written card_need rule_bytes_need body_length behind cut_from cutting in_order all_zero text is_tidy setting said_by scanned card_in rule_in untouched leaving unfit with_reading unless_unfit ruled writes write_call reads read_scan read_call
computing_cards = tt
