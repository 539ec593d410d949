-- `number_at` meets its contract. The loop's invariant: the digits from `from` on are those passed and those from `next` on, and behind `value`
-- these come to the same number, up to the cap.
use Rattle.lexemes.proofs.Digits.{passed_none, passed-more, stops, stops-end}
use Rattle.lexemes.proofs.numbers.number_at.Goals as goal

pub loop-next-init : goal.loop-next-init
loop-next-init c = passed_none _ _ _ c.requires.2

pub returns-in_default : goal.returns-in_default
returns-in_default c = stops _ _ _ _ _ c.loop-next.invariant c.in_default.ensures

pub loop-next-preserved : goal.loop-next-preserved
loop-next-preserved c = passed-more _ _ _ _ _ c.loop-next.invariant _ _ c.loop-next-test.true c.in-Some.ensures.0 c.in-Some.ensures.1 c.requires.0 c.requires.1 c.more-value.ensures

pub returns : goal.returns
returns c = stops-end _ _ _ _ _ c.loop-next.invariant c.loop-next-test.false c.requires.1
