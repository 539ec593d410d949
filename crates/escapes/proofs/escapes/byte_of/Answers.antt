-- `byte_of` meets its contract, by whether the number is over the limit of a byte.
use mathlib.Core.Path.{◌∙◌}
use Rattle.escapes.proofs.EscapeCases.{byte_of-over, byte_of-fits}
use Rattle.escapes.proofs.escapes.byte_of.Goals as goal

pub returns-then-v-gt255 : goal.returns-then-v-gt255
returns-then-v-gt255 c = rw c.malformed.ensures (byte_of-over _ _ _ c.if-v-gt255.true)

pub returns : goal.returns
returns c = c.single.ensures ∙ byte_of-fits _ _ _ c.if-v-gt255.false
