use Rattle.syntax.specs.Compiled.{assertion_word}
use Rattle.syntax.proofs.U32FromAssertion.from.Goals as goal

pub returns-in-TextStart : goal.returns-in-TextStart
unfolding assertion_word
returns-in-TextStart c = rw c.in-TextStart.is

pub returns-in-LineStart : goal.returns-in-LineStart
unfolding assertion_word
returns-in-LineStart c = rw c.in-LineStart.is

pub returns-in-TextEnd : goal.returns-in-TextEnd
unfolding assertion_word
returns-in-TextEnd c = rw c.in-TextEnd.is

pub returns-in-LastLineEnd : goal.returns-in-LastLineEnd
unfolding assertion_word
returns-in-LastLineEnd c = rw c.in-LastLineEnd.is

pub returns-in-LineEnd : goal.returns-in-LineEnd
unfolding assertion_word
returns-in-LineEnd c = rw c.in-LineEnd.is

pub returns-in-WordBoundary : goal.returns-in-WordBoundary
unfolding assertion_word
returns-in-WordBoundary c = rw c.in-WordBoundary.is

pub returns-in-NoWordBoundary : goal.returns-in-NoWordBoundary
unfolding assertion_word
returns-in-NoWordBoundary c = rw c.in-NoWordBoundary.is
