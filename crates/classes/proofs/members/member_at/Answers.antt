-- `member_at` meets its contract: an element that is refused, one alone, or one with a `-` and another behind it.
use Rattle.std.proofs.lemmas.Result.{err_from_is_err_and}
use mathlib.Core.Path.{◌∙◌}
use native.Mathlib.Omega.{arith}
use Rattle.classes.proofs.MemberCases.{member-bad, member-alone, member-half, member-range}
use Rattle.classes.proofs.members.member_at.Goals as goal

pub returns-in_err-low : goal.returns-in_err-low
returns-in_err-low c = let p = err_from_is_err_and c.from_residual.result c.from_residual.ensures.1 in rw (p.1, p.2) (member-bad _ _ _ _ _ c.in_err-low.ensures)

pub returns-then-not-makes_range : goal.returns-then-not-makes_range
returns-then-not-makes_range c = member-alone _ _ _ _ c.in_ok-low.low c.in_ok-low.ensures _ c.makes_range.ensures.0 c.if-not-makes_range.true

pub overflow_add-low : goal.overflow_add-low
overflow_add-low c = omega (arith, c.makes_range.ensures.1 c.if-not-makes_range.false)

pub returns-in_err-high : goal.returns-in_err-high
returns-in_err-high c =
    let p = err_from_is_err_and c.from_residual-in_err-high.result c.from_residual-in_err-high.ensures.1 in
    rw (p.1, p.2) (member-half _ _ _ _ c.in_ok-low.low c.in_ok-low.ensures _ c.makes_range.ensures.0 c.if-not-makes_range.false _ c.in_err-high.ensures)

pub returns : goal.returns
returns c = c.range_of.ensures ∙ member-range _ _ _ _ c.in_ok-low.low c.in_ok-low.ensures _ c.makes_range.ensures.0 c.if-not-makes_range.false c.in_ok-high.high c.in_ok-high.ensures
