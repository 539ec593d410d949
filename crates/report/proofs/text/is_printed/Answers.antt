-- By the range.
use Rattle.std.proofs.Common.{arith}
use borrow.Author.Tests.{lt-leb, le-leb}
use Rattle.report.specs.Text.{is_printed}
use Rattle.report.proofs.text.is_printed.Goals as goal

pub returns-in-32-to-126 : goal.returns-in-32-to-126
unfolding is_printed
returns-in-32-to-126 c = rw (le-leb 32 c.args.b (omega arith), le-leb c.args.b 126 (omega arith))

pub returns-in_default : goal.returns-in_default
unfolding is_printed
returns-in_default c = rw (lt-leb 32 c.args.b (omega arith))

pub returns-in_default-2 : goal.returns-in_default-2
unfolding is_printed
returns-in_default-2 c = rw (le-leb 32 c.args.b (omega arith), lt-leb c.args.b 126 (omega arith))
