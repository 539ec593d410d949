-- The bytes that are there fit the slice.
use Rattle.std.proofs.Common.{◌≤◌, length, ◌≡◌}
use Rattle.gateway.proofs.rule_file.load.Given as goal

abbrev pub invariant-loop : goal.invariant-loop
invariant-loop g l = (l.have ≤ length l.fn.rule) × (length l.rule ≡ length l.fn.rule)
