-- `from_to` meets its contract: its two tests are those of the definition.
use mathlib.Core.Path.{◌∙◌}
use Rattle.lexemes.proofs.Repeats.{from_to-less, from_to-over, from_to-fit}
use Rattle.lexemes.proofs.quantifiers.from_to.Goals as goal

pub returns-then-m-n : goal.returns-then-m-n
returns-then-m-n c = from_to-less _ _ _ _ c.if-m-n.true

pub returns-then-m-gt255 : goal.returns-then-m-gt255
returns-then-m-gt255 c = from_to-over _ _ _ _ c.if-m-gt255.true

pub returns : goal.returns
returns c = c.with_greed.ensures ∙ from_to-fit _ _ _ _ c.if-m-n.false c.if-m-gt255.false
