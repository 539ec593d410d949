-- `match_held` meets its contract: the opening is found, the registers are clear, and the rest is the promise of `match_opened` for the part that is the whole
-- subject.
use native.Mathlib.Omega.{arith}
use Rattle.syntax.specs.Limits.{unset, registers, height_limit, nesting_limit, spans_length, group_limit, rule_area_need}
use Rattle.machine.specs.Theorem.{clear-all}
use Rattle.frame.specs.Laws.Parts.{between-all}
use Rattle.finding.specs.Laws.Registers.{clear-fresh}
use Rattle.finding.proofs.match_held.Goals as goal

pub find_opening-opening-requires : goal.find_opening-opening-requires
unfolding rule_area_need
find_opening-opening-requires c = omega (arith, c.requires.0.code_size)

pub match_opened-requires : goal.match_opened-requires
unfolding unset registers height_limit nesting_limit spans_length group_limit
match_opened-requires c = record {
  from_le_to = (omega arith, omega arith, c.requires.1);
  held = (rw (between-all c.args.subject.now) c.requires.0, c.find_opening-opening.ensures, omega arith, clear-fresh 0 clear-all);
}

pub returns : goal.returns
returns c = let m = c.match_opened in record {
  finds = rw (between-all c.args.subject.now) at m.ensures.finds;
  work_unchanged = m.ensures.work_unchanged;
}
