-- `count_newline` meets its contract: the two cases of the byte.
use Rattle.counting.specs.Laws.Lines.{counts-newline, counts-no-newline}
use Rattle.counting.proofs.count_newline.Goals as goal

pub returns-then-byte-eq-NEWLINE : goal.returns-then-byte-eq-NEWLINE
returns-then-byte-eq-NEWLINE c = let a = c.args in counts-newline a.byte a.count c.if-byte-eq-NEWLINE.true

pub returns : goal.returns
returns c = let a = c.args in counts-no-newline a.byte a.count c.if-byte-eq-NEWLINE.false
