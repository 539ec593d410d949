-- `backward_at` meets its contract: no digit, 0, or another number. The cap on numbers is over the limit of groups.
use Rattle.std.proofs.lemmas.Result.{err_from_is_err_and}
use mathlib.Core.Path.{ap, ◌∙◌}
use Prim.Native.Nat.{ℕ}
use native.Mathlib.Omega.{arith}
use Rattle.syntax.specs.Limits.{group_limit}
use Rattle.syntax.specs.Read.{sound}
use Rattle.syntax.specs.Escapes.{backward}
use Rattle.lexer.proofs.ReferenceCases.{backward-capped, backward-none, backward-some}
use Rattle.lexer.proofs.references.backward_at.Goals as goal

pub returns-in_err-number : goal.returns-in_err-number
returns-in_err-number c =
    let p = err_from_is_err_and c.from_residual.result c.from_residual.ensures.1 in rw (p.1, p.2) (c.in_err-number.ensures (backward c.args.opened) (λ n. backward-capped _ n c.requires.0))

pub returns-then-number-eq0 : goal.returns-then-number-eq0
returns-then-number-eq0 c =
    ap (λ (m : ℕ). sound m c.in_ok-number.number.next) (c.if-number-eq0.true ∙ backward-none c.args.opened c.in_ok-number.number.value c.if-number-eq0.true)
    ∙ c.in_ok-number.ensures (backward c.args.opened) (λ n. backward-capped _ n c.requires.0)

pub overflow_add-opened : goal.overflow_add-opened
unfolding group_limit
overflow_add-opened c = omega (arith, c.requires.0)

pub returns : goal.returns
returns c =
    ap (λ (m : ℕ). sound m c.in_ok-number.number.next) (c.saturating_sub.ensures ∙ backward-some c.args.opened c.in_ok-number.number.value c.if-number-eq0.false)
    ∙ c.in_ok-number.ensures (backward c.args.opened) (λ n. backward-capped _ n c.requires.0)
