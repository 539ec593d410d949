-- The measures of the cycle: the levels that are left, which fall at each part of a sequence and at each repeat; at one level a part comes before an
-- inside, that before branches, and that before a sequence. Then what the members are given and ask.
use Prim.Native.Nat.{◌≤◌, ◌+◌, ◌*◌}
use Rattle.lengths.proofs.Alternatives.{Rest, AllGoing}
use Rattle.syntax.specs.Limits.{length_limit}
use Rattle.linker.specs.Nodes.{Chain}
use Rattle.lengths.specs.Measures.{Deep}
use Rattle.lengths.proofs.Chains.{Going}
use Rattle.lengths.proofs.+branches_chain_inside_part.Given as goal

abbrev pub invariant-branches-loop-p : goal.invariant-branches-loop-p
invariant-branches-loop-p l = Rest l.area l.p l.depth × AllGoing l.area l.last l.p l.initial.m l.m × (l.p ≤ l.last)

abbrev pub decreases-branches-loop-p : goal.decreases-branches-loop-p
decreases-branches-loop-p l = l.p

abbrev pub invariant-chain-loop-p : goal.invariant-chain-loop-p
invariant-chain-loop-p l = Deep Chain l.area l.p l.depth × Going l.area l.last l.p l.m × (l.m.least ≤ length_limit) × (l.p ≤ l.last)

abbrev pub decreases-chain-loop-p : goal.decreases-chain-loop-p
decreases-chain-loop-p l = l.p

abbrev pub decreases-branches : goal.decreases-branches
decreases-branches l = 4 * l.depth + 1

abbrev pub decreases-chain : goal.decreases-chain
decreases-chain l = 4 * l.depth

abbrev pub decreases-inside : goal.decreases-inside
decreases-inside l = 4 * l.depth + 2

abbrev pub decreases-part : goal.decreases-part
decreases-part l = 4 * l.depth + 3
