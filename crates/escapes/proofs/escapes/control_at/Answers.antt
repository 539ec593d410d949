-- `control_at` meets its contract, by the part of the ASCII table in which the byte stands.
use mathlib.Core.Logic.{inl, inr}
use mathlib.Core.Path.{◌∙◌}
use native.Mathlib.Omega.{arith}
use Rattle.escapes.proofs.EscapeCases.{control-far, control-question, control-backslash, control-mark, control-backquote, control-lower}
use Rattle.escapes.proofs.escapes.control_at.Goals as goal
use Rattle.escapes.proofs.escapes.control_at.Goals.{in_default-via-then-b-lt63, in_default-via-else-b-lt63+else-b-lt92+then-b-lt93, in_default-via-else-b-lt63+else-b-lt92+else-b-lt93+else-b-lt96+then-b-lt97, in_default-via-else-b-lt63+else-b-lt92+else-b-lt93+else-b-lt96+else-b-lt97+else-b-lt123}

pub returns-in-63 : goal.returns-in-63
returns-in-63 c = c.single.ensures ∙ control-question _ _ _ c.peek-b.ensures.is c.in-63.is

pub returns-in-64-to-91 : goal.returns-in-64-to-91
returns-in-64-to-91 c = c.single-in-64-to-91.ensures ∙ control-mark _ _ _ c.peek-b.ensures.is (omega arith) (omega arith) (λ e. omega arith)

pub returns-in-93-to-95 : goal.returns-in-93-to-95
returns-in-93-to-95 c = c.single-in-93-to-95.ensures ∙ control-mark _ _ _ c.peek-b.ensures.is (omega arith) (omega arith) (λ e. omega arith)

pub returns-in-97-to-122 : goal.returns-in-97-to-122
returns-in-97-to-122 c = c.single-in-97-to-122.ensures ∙ control-lower _ _ _ c.peek-b.ensures.is (omega arith) (omega arith)

pub returns-in_default : goal.returns-in_default
returns-in_default c =
    rw c.malformed.ensures
    (elim c.in_default.branch [
      | in_default-via-then-b-lt63 w ↦ control-far _ _ _ c.peek-b.ensures.is (inl (omega arith))
      | in_default-via-else-b-lt63+else-b-lt92+then-b-lt93 w ↦ control-backslash _ _ _ c.peek-b.ensures.is (omega arith)
      | in_default-via-else-b-lt63+else-b-lt92+else-b-lt93+else-b-lt96+then-b-lt97 w ↦ control-backquote _ _ _ c.peek-b.ensures.is (omega arith)
      | in_default-via-else-b-lt63+else-b-lt92+else-b-lt93+else-b-lt96+else-b-lt97+else-b-lt123 w ↦ control-far _ _ _ c.peek-b.ensures.is (inr (omega arith))
    ])
