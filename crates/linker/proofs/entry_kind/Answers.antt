-- `entry_kind` meets its contract: the two tests that make a repeat a run.
use mathlib.Core.Path.{refl, ◌∙◌}
use mathlib.Core.Logic.{inr}
use Rattle.syntax.specs.Compiled.{greed_word}
use Rattle.linker.proofs.entry_kind.Goals as goal

pub returns-then-is_one_byte : goal.returns-then-is_one_byte
unfolding greed_word
returns-then-is_one_byte c = inr (refl, c.if-area-p.true ∙ c.from.ensures, c.is_one_byte.ensures c.if-is_one_byte.true)
