use mathlib.Core.Path.{◌≡◌}
use Prim.Native.Nat.{suc, ◌-◌, ◌≤◌}
use Rattle.syntax.specs.Limits.{group_limit}
use Rattle.lookup.specs.Names.{first_named, group_named}
use Rattle.lookup.proofs.names.group_named.Given as goal

abbrev pub invariant-loop-passed : goal.invariant-loop-passed
invariant-loop-passed l = (l.passed ≤ group_limit) × (group_named l.name l.names ≡ first_named (group_limit - l.passed) l.name l.names (suc l.passed))
