use Prim.Native.Nat.{◌<◌}
use Rattle.following.proofs.Pathing.{Going}
use Rattle.following.proofs.paths.follow_path.Given as goal

abbrev pub invariant-loop-entry : goal.invariant-loop-entry
invariant-loop-entry l = Going l.code l.sub l.choices l.initial.regs l.entry l.start l.budget l.regs l.pc l.at l.read l.left × (l.pc < 4294967296) × (l.at < 4294967296) × (l.read < 18446744073709551616) × (l.left < 4294967296)

abbrev pub decreases-loop-entry : goal.decreases-loop-entry
decreases-loop-entry l = l.left
