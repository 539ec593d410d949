-- `members_at` meets its contract. The loop's invariant: the words hold the members that were passed. A member ends behind its beginning, which
-- stands within the rule, so that what is left of the rule falls.
use Rattle.std.proofs.lemmas.Result.{err_from_is_err_and}
use Rattle.classes.proofs.ClassCases.{collected-none, collected-bad, collected-less, collected-closed, collected-more}
use Rattle.classes.proofs.classes.members_at.Goals as goal

pub loop-member-init : goal.loop-member-init
loop-member-init c = collected-none _ _ _ _ _ _ c.empty-words.ensures

pub returns-in_err-member : goal.returns-in_err-member
returns-in_err-member c = let p = err_from_is_err_and c.from_residual.result c.from_residual.ensures.1 in rw (p.1, p.2) (collected-bad _ _ _ _ _ _ _ c.loop-member.invariant _ c.in_err-member.ensures)

pub returns-then-peek-eq-CLOSING_BRACKET : goal.returns-then-peek-eq-CLOSING_BRACKET
returns-then-peek-eq-CLOSING_BRACKET c = collected-closed _ _ _ _ _ _ _ c.loop-member.invariant c.in_ok-member.member c.in_ok-member.ensures _ c.with_member-more.ensures _ c.peek.ensures.is c.if-peek-eq-CLOSING_BRACKET.true

pub loop-member-smaller : goal.loop-member-smaller
loop-member-smaller c = collected-less _ _ _ _ _ _ _ c.loop-member.invariant c.in_ok-member.member c.in_ok-member.ensures

pub loop-member-preserved : goal.loop-member-preserved
loop-member-preserved c = collected-more _ _ _ _ _ _ _ c.loop-member.invariant c.in_ok-member.member c.in_ok-member.ensures _ c.with_member-more.ensures _ c.peek.ensures.is c.if-peek-eq-CLOSING_BRACKET.false
