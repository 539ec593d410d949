-- `with_greed` meets its contract: its tests are the definition's.
use Rattle.lexemes.proofs.Repeats.{greed-lazy, greed-possessive, greed-greedy}
use Rattle.lexemes.proofs.quantifiers.with_greed.Goals as goal

pub returns-then-b-eq63 : goal.returns-then-b-eq63
returns-then-b-eq63 c = greed-lazy _ _ _ _ _ c.peek-b.ensures.is c.if-b-eq63.true

pub returns-then-b-eq43 : goal.returns-then-b-eq43
returns-then-b-eq43 c = greed-possessive _ _ _ _ _ c.peek-b.ensures.is c.if-b-eq43.true

pub returns : goal.returns
returns c = greed-greedy _ _ _ _ _ c.peek-b.ensures.is c.if-b-eq63.false c.if-b-eq43.false
