-- The measures of the cycle: the position falls, and at one position an inside comes before its chain or alternation, that before a part, and that before a part of one kind. Then what the members are given and ask.
use mathlib.Core.Path.{◌≡◌}
use Prim.Native.Nat.{◌≤◌, ◌+◌, ◌*◌}
use lib.ListN.{length}
use Rattle.linker.specs.Known.{known_in}
use Rattle.linker.proofs.Branches.{AllGoing}
use Rattle.linker.proofs.Chains.{Going}
use Rattle.linker.proofs.+link_alternation_link_branches_link_chain_link_group_link_inside_link_part_link_plain_link_repeat.Given as goal

abbrev pub invariant-link_branches-loop-p : goal.invariant-link_branches-loop-p
invariant-link_branches-loop-p l = AllGoing l.names.rule.now (known_in l.names) l.names.groups l.r l.initial.area l.area l.last l.other l.next l.initial.dangling l.p l.after l.dangling × (length l.area ≡ length l.initial.area) × (l.p ≤ l.last)

abbrev pub decreases-link_branches-loop-p : goal.decreases-link_branches-loop-p
decreases-link_branches-loop-p l = l.p

abbrev pub invariant-link_chain-loop-p : goal.invariant-link_chain-loop-p
invariant-link_chain-loop-p l = Going l.names.rule.now (known_in l.names) l.names.groups l.r l.initial.area l.area l.last l.next l.initial.dangling l.p l.pc l.dangling × (length l.area ≡ length l.initial.area) × (l.p ≤ l.last)

abbrev pub decreases-link_chain-loop-p : goal.decreases-link_chain-loop-p
decreases-link_chain-loop-p l = l.p

abbrev pub decreases-link_alternation : goal.decreases-link_alternation
decreases-link_alternation l = 4 * l.p + 2

abbrev pub decreases-link_branches : goal.decreases-link_branches
decreases-link_branches l = 4 * l.last + 2

abbrev pub decreases-link_chain : goal.decreases-link_chain
decreases-link_chain l = 4 * l.last + 2

abbrev pub decreases-link_group : goal.decreases-link_group
decreases-link_group l = 4 * l.p

abbrev pub decreases-link_inside : goal.decreases-link_inside
decreases-link_inside l = 4 * l.p + 3

abbrev pub decreases-link_part : goal.decreases-link_part
decreases-link_part l = 4 * l.p + 1

abbrev pub decreases-link_plain : goal.decreases-link_plain
decreases-link_plain l = 4 * l.p

abbrev pub decreases-link_repeat : goal.decreases-link_repeat
decreases-link_repeat l = 4 * l.p
