-- A kind stands where a record begins; behind it the rule's bytes, and 00 past its end.
use mathlib.Core.Path.{sym, ◌∙◌}
use lib.ListN.{get_or-eq_default}
use Rattle.card_format.proofs.Laws.Written.{kind-byte, rule-byte}
use Rattle.card_records.proofs.bytes.piece_byte.Goals as goal

pub returns-then-within-eq0 : goal.returns-then-within-eq0
returns-then-within-eq0 c = sym (kind-byte c.args.rule.now c.args.i c.if-within-eq0.true)

pub returns-then-at-rule : goal.returns-then-at-rule
returns-then-at-rule c = sym (rule-byte c.args.rule.now c.args.i c.if-within-eq0.false)

pub returns : goal.returns
returns c = sym (rule-byte c.args.rule.now c.args.i c.if-within-eq0.false ∙ get_or-eq_default c.args.rule.now 0 c.if-at-rule.false)
