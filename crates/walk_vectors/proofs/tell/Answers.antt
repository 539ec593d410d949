-- What the reader compiled is what the machine walks.
use mathlib.Core.Path.{◌∙◌}
use native.Mathlib.Omega.{arith}
use Rattle.syntax.specs.Limits.{rule_area_need}
use Rattle.walk_vectors.proofs.Starts.{walkable, few-groups}
use Rattle.walk_vectors.proofs.tell.Goals as goal

pub walk_from-requires : goal.walk_from-requires
unfolding rule_area_need
walk_from-requires c = let said = rw c.in-Ok.is at c.compile.ensures.says in
    let long = c.compile.auto.area ∙ c.requires.1 in
    record {
      start_in_bounds = (omega arith, c.requires.2, omega arith, c.requires.3, few-groups _ _ _ _ _ said, c.requires.4);
      stands = walkable _ _ _ _ _ said long;
    }
