-- `octal_at` meets its contract, by how many octal digits there are, up to three.
use mathlib.Core.Path.{◌∙◌}
use Rattle.escapes.proofs.EscapeCases.{octal-none, octal-one, octal-two, octal-three}
use Rattle.escapes.proofs.escapes.octal_at.Goals as goal

pub returns-in_default : goal.returns-in_default
returns-in_default c = c.byte_of.ensures ∙ octal-none _ _ c.in_default.ensures

pub returns-in_default-digit_at : goal.returns-in_default-digit_at
returns-in_default-digit_at c = c.byte_of-in_default-digit_at.ensures ∙ octal-one _ _ _ c.in-Some.ensures c.in_default-digit_at.ensures

pub returns-in_default-digit_at-2 : goal.returns-in_default-digit_at-2
returns-in_default-digit_at-2 c = c.byte_of-in_default-digit_at-2.ensures ∙ octal-two _ _ _ c.in-Some.ensures _ c.in-Some-digit_at.ensures c.in_default-digit_at-2.ensures

pub returns : goal.returns
returns c = c.byte_of-2.ensures ∙ octal-three _ _ _ c.in-Some.ensures _ c.in-Some-digit_at.ensures _ c.in-Some-digit_at-2.ensures
