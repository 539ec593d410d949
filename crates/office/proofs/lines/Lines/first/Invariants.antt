-- What is gathered of the line is within its buffer.
use Rattle.std.proofs.Common.{◌≤◌, length, ◌≡◌}
use Rattle.office.proofs.lines.Lines.first.Given as goal

abbrev pub invariant-loop : goal.invariant-loop
invariant-loop g l = (l.have ≤ length l.fn.line) × (length l.line ≡ length l.fn.line)
