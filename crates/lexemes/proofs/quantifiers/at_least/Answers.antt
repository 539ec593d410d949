-- `at_least` meets its contract: its test is the definition's.
use mathlib.Core.Path.{◌∙◌}
use Rattle.lexemes.proofs.Repeats.{at_least-over, at_least-fit}
use Rattle.lexemes.proofs.quantifiers.at_least.Goals as goal

pub returns-then-n-gt255 : goal.returns-then-n-gt255
returns-then-n-gt255 c = at_least-over _ _ _ c.if-n-gt255.true

pub returns : goal.returns
returns c = c.with_greed.ensures ∙ at_least-fit _ _ _ c.if-n-gt255.false
