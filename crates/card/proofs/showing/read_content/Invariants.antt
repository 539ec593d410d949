-- What was read is within what is lent for it.
use Rattle.std.proofs.Common.{◌≤◌, length, ◌≡◌}
use Rattle.card.proofs.showing.read_content.Given as goal

abbrev pub invariant-loop : goal.invariant-loop
invariant-loop l = (l.have ≤ length l.fn.content) × (length l.content ≡ length l.fn.content)
