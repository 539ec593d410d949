-- `miss_unless` meets its contract: nothing is told of an item that holds.
use Rattle.plain.specs.Misses.{failed_if, missed_of}
use Rattle.plain.proofs.miss_unless.Goals as goal

pub returns-then-holds : goal.returns-then-holds
unfolding missed_of failed_if
returns-then-holds c = λ start. rw c.if-holds.true

pub returns : goal.returns
unfolding missed_of failed_if
returns c = λ start. rw c.if-holds.false
