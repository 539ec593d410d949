-- The area is as long as a rule needs.
use Rattle.syntax.specs.Limits.{rule_area_need}
use borrow.Author.Rules.{rules}
use Rattle.rule_vectors.proofs.main.Goals as goal

pub tell_lines-requires : goal.tell_lines-requires
unfolding rule_area_need
tell_lines-requires c = search rules
