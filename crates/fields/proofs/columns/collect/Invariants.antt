use Prim.Native.Nat.{◌≤◌}
use Rattle.syntax.specs.Limits.{group_limit}
use Rattle.fields.proofs.columns.collect.Given as goal

abbrev pub invariant-loop-argument : goal.invariant-loop-argument
invariant-loop-argument l = l.count ≤ group_limit
