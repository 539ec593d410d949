-- `makes_range` meets its contract: a `-`, and no `]` behind it. The `-` stands within the rule.
use native.Mathlib.Omega.{arith}
use Rattle.classes.proofs.MemberCases.{no-range, maybe-range}
use Rattle.escapes.proofs.NameCases.{never}
use Rattle.classes.proofs.members.makes_range.Goals as goal

pub returns-then-peek-ne-MINUS : goal.returns-then-peek-ne-MINUS
returns-then-peek-ne-MINUS c = (no-range _ _ _ c.peek.ensures.is c.if-peek-ne-MINUS.true, λ e. absurd (never e))

pub returns : goal.returns
returns c = (maybe-range _ _ _ c.peek.ensures.is c.if-peek-ne-MINUS.false _ c.peek-2.ensures.is, λ e. omega arith)
