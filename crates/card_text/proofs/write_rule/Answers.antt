-- The rule's line, and the line of signs if there is something to mark.
use mathlib.Core.Path.{sym, ◌∙◌}
use native.Mathlib.Omega.{arith}
use Rattle.card_text.specs.Room.{rule_room}
use Rattle.card_text.specs.Laws.Writing.{ruled, ruled-odd}
use Rattle.card_text.proofs.write_rule.Goals as goal

pub write_line-end-requires : goal.write_line-end-requires
unfolding rule_room
write_line-end-requires c = omega arith

pub write_line-requires : goal.write_line-requires
unfolding rule_room
write_line-requires c = omega (arith, c.write_line-end.ensures.near)

pub returns-then-is_odd : goal.returns-then-is_odd
returns-then-is_odd c = ruled-odd c.args.rule.now (sym c.is_odd.ensures ∙ c.if-is_odd.true) c.requires c.write_line-end.ensures c.write_line.ensures

pub returns : goal.returns
returns c = ruled c.args.rule.now (sym c.is_odd.ensures ∙ c.if-is_odd.false) c.write_line-end.ensures
