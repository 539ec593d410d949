-- `class_at` meets its contract: the members, or with a `^` before them the complement.
use Rattle.std.proofs.lemmas.Result.{err_from_is_err_and}
use Rattle.classes.proofs.ClassCases.{class-plain, class-negated, class-bad}
use Rattle.classes.proofs.classes.class_at.Goals as goal

pub returns-then-peek-ne-CARET : goal.returns-then-peek-ne-CARET
returns-then-peek-ne-CARET c = class-plain _ _ _ _ _ c.peek.ensures.is c.if-peek-ne-CARET.true c.members_at.result c.members_at.ensures

pub returns-in_err-members : goal.returns-in_err-members
returns-in_err-members c =
    let p = err_from_is_err_and c.from_residual.result c.from_residual.ensures.1 in rw (p.1, p.2) (class-bad c.args.folded _ _ _ _ c.peek.ensures.is c.if-peek-ne-CARET.false _ c.in_err-members.ensures)

pub returns : goal.returns
returns c = class-negated _ _ _ _ _ c.peek.ensures.is c.if-peek-ne-CARET.false c.in_ok-members.members _ c.complement.ensures c.in_ok-members.ensures
