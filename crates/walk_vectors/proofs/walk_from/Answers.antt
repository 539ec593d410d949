-- The registers are clear, so that the machine is ready for the walk.
use mathlib.Core.Path.{refl}
use native.Mathlib.Omega.{arith}
use Rattle.syntax.specs.Limits.{unset, group_limit, registers}
use Rattle.walk_vectors.proofs.Starts.{ready}
use Rattle.walk_vectors.proofs.walk_from.Goals as goal

pub walk-requires : goal.walk-requires
unfolding registers unset group_limit
walk-requires c = record {
  regs_len = (refl, omega (arith, c.requires.start_in_bounds.4), c.requires.start_in_bounds.1, c.requires.start_in_bounds.2);
  by_index = ready c.args.code.now c.args.sub.now c.args.work.now c.requires.stands.0 c.args.entry c.args.start c.args.budget c.start-m.result c.requires.stands.1 (λ i. omega (arith, c.type_inv.sub i)) c.requires.start_in_bounds.0 c.requires.start_in_bounds.3 c.requires.start_in_bounds.5 c.start-m.ensures;
}
