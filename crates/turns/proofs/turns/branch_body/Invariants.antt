use mathlib.Core.Path.{◌≡◌}
use Prim.Native.Nat.{◌<◌}
use Rattle.turns.specs.Turns.{body_of}
use Rattle.turns.proofs.turns.branch_body.Given as goal

abbrev pub invariant-loop-k : goal.invariant-loop-k
invariant-loop-k l = (body_of l.code l.c l.pc ≡ body_of l.code l.k l.q) × (l.q < 4294967296) × (l.k < 4294967296)

abbrev pub decreases-loop-k : goal.decreases-loop-k
decreases-loop-k l = l.k
