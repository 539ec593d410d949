-- By cases of the flag.
use mathlib.Core.Path.{◌≡◌, refl, ap, ◌∙◌}
use mathlib.Core.Bool.{Bool, true, false}
use mir.Val.{bool_byte}
use Rattle.syntax.specs.Compiled.{folded_word}
use Rattle.writer.proofs.folded_word.Goals as goal

bit : (b : Bool) → bool_byte b ≡ folded_word b
unfolding folded_word
bit true = refl
bit false = refl

pub returns : goal.returns
returns c = c.from.ensures ∙ bit _ ∙ ap folded_word c.ignores_case.ensures
