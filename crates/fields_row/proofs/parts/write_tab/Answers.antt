-- By the test.
use Rattle.text.specs.Laws.Writing.{wrote_nothing}
use Rattle.fields_text.specs.Table.{tab}
use Rattle.fields_row.specs.Laws.Parts.{tab-before, none_before}
use Rattle.fields_row.proofs.parts.write_tab.Goals as goal

pub returns-then-taken-eq0 : goal.returns-then-taken-eq0
unfolding tab
returns-then-taken-eq0 c = rw (tab-before c.args.taken c.if-taken-eq0.true) c.append_byte.ensures

pub returns : goal.returns
returns c = let a = c.args in rw (none_before a.taken c.if-taken-eq0.false) (wrote_nothing a.out.now a.at)
