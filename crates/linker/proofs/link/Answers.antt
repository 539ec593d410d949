-- `link` meets its contract: the rule is the inside of no group, and goes on at the end.
use native.Mathlib.Omega.{arith}
use Rattle.syntax.specs.Limits.{spans_length, group_limit, rule_area_need}
use Rattle.linker.proofs.Made.{links-near}
use Rattle.linker.proofs.Insides.{whole-stands, whole-fit, whole-entry, whole-none}
use Rattle.linker.proofs.link.Goals as goal

pub invariant_of-names : goal.invariant_of-names
invariant_of-names c = record { fit = whole-fit _ _ _ _ _ c.requires }

pub link_inside-entry-requires : goal.link_inside-entry-requires
unfolding spans_length group_limit
link_inside-entry-requires c = (whole-stands _ _ _ _ _ c.requires, omega arith)

pub overflow_cast-result : goal.overflow_cast-result
unfolding spans_length group_limit rule_area_need
overflow_cast-result c = omega (arith, links-near _ _ _ _ _ _ _ _ _ _ (omega arith) (whole-stands _ _ _ _ _ c.requires) c.link_inside-entry.ensures)

pub returns-in-Some : goal.returns-in-Some
unfolding spans_length group_limit
returns-in-Some c = rw c.at.ensures (whole-none _ _ _ _ _ _ _ _ c.link_inside-entry.ensures _ c.in-Some.is)

pub returns-in-None : goal.returns-in-None
unfolding spans_length group_limit
returns-in-None c = whole-entry _ _ _ _ _ _ _ _ c.link_inside-entry.ensures c.in-None.is
