-- By cases: what can be printed and what cannot, and the byte or the sign under it.
use mathlib.Core.Path.{sym, ◌∙◌}
use native.Mathlib.Omega.{arith}
use Rattle.fields_text.proofs.Laws.Writing.{wrote_few, wrote_as}
use Rattle.card_text.specs.Laws.Writing.{under-printed, as_itself, under-odd, as_hex}
use Rattle.card_text.proofs.write_one.Goals as goal

pub returns-then-under : goal.returns-then-under
returns-then-under c = wrote_few 4 (under-printed c.args.byte c.args.under (sym c.is_printed.ensures ∙ c.if-is_printed.true) c.if-under.true) (omega arith) c.append_byte.ensures

pub returns-then-is_printed : goal.returns-then-is_printed
returns-then-is_printed c = wrote_few 4 (as_itself c.args.byte c.args.under (sym c.is_printed.ensures ∙ c.if-is_printed.true) c.if-under.false) (omega arith) c.append_byte-then-is_printed.ensures

pub returns-then-under-2 : goal.returns-then-under-2
returns-then-under-2 c = wrote_few 4 (under-odd c.args.byte c.args.under (sym c.is_printed.ensures ∙ c.if-is_printed.false) c.if-under-2.true) (omega arith) c.append.ensures

pub returns : goal.returns
returns c = wrote_as (as_hex c.args.byte c.args.under (sym c.is_printed.ensures ∙ c.if-is_printed.false) c.if-under-2.false) c.write_hex.ensures
