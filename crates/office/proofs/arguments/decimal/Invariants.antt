-- The digits so far are a number within the limit.
use Rattle.std.proofs.Common.{◌≤◌}
use Rattle.office.proofs.arguments.decimal.Given as goal

abbrev pub invariant-loop-byte : goal.invariant-loop-byte
invariant-loop-byte l = l.n ≤ l.limit
