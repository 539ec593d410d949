-- `breaks_line` meets its contract, byte by byte.
use Rattle.lexemes.proofs.BreakCases.{breaks-not, breaks-by}
use Rattle.lexemes.proofs.breaks.breaks_line.Goals as goal

pub returns-then-peek-ne-BACKSLASH : goal.returns-then-peek-ne-BACKSLASH
returns-then-peek-ne-BACKSLASH c = breaks-not _ _ c.peek.ensures c.if-peek-ne-BACKSLASH.true

pub returns : goal.returns
returns c = breaks-by _ _ c.peek.ensures c.if-peek-ne-BACKSLASH.false c.peek-2.ensures
