-- `followed` meets its contract: where no check asks, everything passes.
use Rattle.lengths.proofs.Insides.{followed-not}
use Rattle.reader.proofs.compiling.followed.Goals as goal

pub returns-then-checked : goal.returns-then-checked
returns-then-checked c = rw c.if-checked.true c.checkable.ensures

pub returns : goal.returns
returns c = followed-not _ _ _ c.if-checked.false
