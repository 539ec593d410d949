-- `forward_at` meets its contract: no digit, a number over the limit, or one up to it. The cap on numbers is over the limit.
use Rattle.std.proofs.lemmas.Result.{err_from_is_err_and}
use mathlib.Core.Path.{ap, ◌∙◌}
use Prim.Native.Nat.{ℕ}
use Rattle.syntax.specs.Read.{sound}
use Rattle.syntax.specs.Limits.{group_limit}
use Rattle.syntax.specs.Escapes.{forward}
use Rattle.lexer.proofs.ReferenceCases.{forward-capped, forward-over, forward-fits}
use Rattle.lexer.proofs.references.forward_at.Goals as goal

pub returns-in_err-number : goal.returns-in_err-number
returns-in_err-number c = let p = err_from_is_err_and c.from_residual.result c.from_residual.ensures.1 in rw (p.1, p.2) (c.in_err-number.ensures forward forward-capped)

pub returns-then-number-gt-GROUP_LIMIT : goal.returns-then-number-gt-GROUP_LIMIT
unfolding group_limit
returns-then-number-gt-GROUP_LIMIT c = ap (λ (m : ℕ). sound m c.in_ok-number.number.next) (forward-over _ c.if-number-gt-GROUP_LIMIT.true) ∙ c.in_ok-number.ensures forward forward-capped

pub returns : goal.returns
unfolding group_limit
returns c = ap (λ (m : ℕ). sound m c.in_ok-number.number.next) (forward-fits _ c.if-number-gt-GROUP_LIMIT.false) ∙ c.in_ok-number.ensures forward forward-capped
