-- `before_of` meets its contract: a repeat names the part before it in its last number, every other node in its second.
use mathlib.Core.Path.{◌∙◌}
use Rattle.linker.proofs.Stores.{before-repeat, before-other}
use Rattle.linker.proofs.before_of.Goals as goal

pub returns-then-area-p-eq-REPEAT : goal.returns-then-area-p-eq-REPEAT
returns-then-area-p-eq-REPEAT c = c.word.ensures.0 ∙ before-repeat _ _ c.if-area-p-eq-REPEAT.true

pub returns : goal.returns
returns c = c.word-2.ensures.0 ∙ before-other _ _ c.if-area-p-eq-REPEAT.false
