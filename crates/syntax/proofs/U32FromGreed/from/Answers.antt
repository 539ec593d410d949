use Rattle.syntax.specs.Compiled.{greed_word}
use Rattle.syntax.proofs.U32FromGreed.from.Goals as goal

pub returns-in-Greedy : goal.returns-in-Greedy
unfolding greed_word
returns-in-Greedy c = rw c.in-Greedy.is

pub returns-in-Lazy : goal.returns-in-Lazy
unfolding greed_word
returns-in-Lazy c = rw c.in-Lazy.is
