use mathlib.Core.Path.{◌≡◌}
use Prim.Native.Nat.{suc, ◌-◌, ◌≤◌}
use Rattle.syntax.specs.Limits.{group_limit}
use Rattle.lookup.specs.Rows.{spans_hold}
use Rattle.lookup.proofs.rows.spans_hold.Given as goal

abbrev pub invariant-loop-passed : goal.invariant-loop-passed
invariant-loop-passed l = (l.passed ≤ group_limit) × (spans_hold group_limit l.line l.row 1 ≡ spans_hold (group_limit - l.passed) l.line l.row (suc l.passed))
