-- By the quantifier that stands behind the blanks.
use mathlib.Core.Path.{sym}
use Rattle.reasons.specs.Items.{behind_repeat, with_repeat}
use Rattle.reasons.proofs.items.with_repeat.Goals as goal

pub returns-in-Absent : goal.returns-in-Absent
unfolding with_repeat behind_repeat
returns-in-Absent c = rw (sym c.behind_blanks.ensures, sym c.quantifier_at-x.ensures, c.in-Absent.is)

pub returns-in-Stray : goal.returns-in-Stray
unfolding with_repeat behind_repeat
returns-in-Stray c = rw (sym c.behind_blanks.ensures, sym c.quantifier_at-x.ensures, c.in-Stray.is)

pub returns-in-Unfit : goal.returns-in-Unfit
unfolding with_repeat behind_repeat
returns-in-Unfit c = rw (sym c.behind_blanks.ensures, sym c.quantifier_at-x.ensures, c.in-Unfit.is)

pub returns-in-Times : goal.returns-in-Times
unfolding with_repeat behind_repeat
returns-in-Times c = rw (sym c.behind_blanks.ensures, sym c.quantifier_at-x.ensures, c.in-Times.is)
