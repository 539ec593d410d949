-- `class_escape_at` meets its contract, by the byte behind the backslash.
use mathlib.Core.Logic.{inl, inr, ⊎_elim}
use mathlib.Core.Path.{◌∙◌}
use native.Mathlib.Omega.{arith}
use Rattle.escapes.proofs.EscapeCases.{class-backspace, class-octal, class-common}
use Rattle.escapes.proofs.escapes.class_escape_at.Goals as goal

pub returns-in-98 : goal.returns-in-98
returns-in-98 c = c.single.ensures ∙ class-backspace _ _ _ c.peek-b.ensures.is c.in-98.is

pub returns-in-48-to-55 : goal.returns-in-48-to-55
returns-in-48-to-55 c = c.octal_at.ensures ∙ class-octal _ _ _ c.peek-b.ensures.is (omega arith) (omega arith)

pub returns-in_default : goal.returns-in_default
returns-in_default c = c.common_at.ensures ∙ class-common _ _ _ c.peek-b.ensures.is c.in_default-1.rest.1 (⊎_elim (λ w. inl (omega arith)) (λ w. inr (omega arith)) c.in_default.branch-raw)
