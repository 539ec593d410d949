-- `at_word_boundary` meets its contract: exactly one neighbour is a word byte, by cases on the one before.
use Rattle.nodes.proofs.Tests.{boundary-word, boundary-other}
use Rattle.nodes.proofs.assertions.at_word_boundary.Goals as goal

pub returns-then-before : goal.returns-then-before
returns-then-before c = boundary-word c.args.sub.now _ _ _ _ _ c.byte_before.ensures c.is_word-before.ensures c.byte_at.ensures c.is_word-here.ensures c.if-before.true

pub returns : goal.returns
returns c = boundary-other c.args.sub.now _ _ _ _ _ c.byte_before.ensures c.is_word-before.ensures c.byte_at.ensures c.is_word-here.ensures c.if-before.false
