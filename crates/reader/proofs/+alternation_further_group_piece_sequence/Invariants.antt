-- The measures of the cycle, five times the bytes left and the place of a member in the order of the calls, and what its members are given and ask.
use Prim.Native.Nat.{◌-◌, ◌+◌, ◌*◌}
use lib.ListN.{length}
use Rattle.reader.proofs.Alternations.{Branched}
use Rattle.reader.proofs.Sequences.{Passed}
use Rattle.reader.proofs.+alternation_further_group_piece_sequence.Given as goal

abbrev pub invariant-further-loop-c : goal.invariant-further-loop-c
invariant-further-loop-c l = Branched l.rule l.flags l.depth l.initial.area l.area l.initial.table l.table l.fn.first.cursor l.fn.first.node l.branch.cursor l.before l.branch.node l.count

abbrev pub decreases-further-loop-c : goal.decreases-further-loop-c
decreases-further-loop-c l = length l.rule - l.branch.cursor.at

abbrev pub invariant-sequence-loop-cursor : goal.invariant-sequence-loop-cursor
invariant-sequence-loop-cursor l = Passed l.rule l.flags l.depth l.initial.area l.area l.initial.table l.table l.fn.c l.so_far.cursor l.so_far.node l.so_far.kind

abbrev pub decreases-sequence-loop-cursor : goal.decreases-sequence-loop-cursor
decreases-sequence-loop-cursor l = length l.rule - l.so_far.cursor.at

abbrev pub decreases-alternation : goal.decreases-alternation
decreases-alternation l = 5 * (length l.rule.now - l.c.at) + 4

abbrev pub decreases-further : goal.decreases-further
decreases-further l = 5 * (length l.rule.now - l.first.cursor.at) + 3

abbrev pub decreases-group : goal.decreases-group
decreases-group l = 5 * (length l.rule.now - l.c.at) + 0

abbrev pub decreases-piece : goal.decreases-piece
decreases-piece l = 5 * (length l.rule.now - l.so_far.cursor.at) + 1

abbrev pub decreases-sequence : goal.decreases-sequence
decreases-sequence l = 5 * (length l.rule.now - l.c.at) + 2
