use mathlib.Core.Path.{◌≡◌}
use mathlib.Core.Bool.{true}
use lib.ListN.{length}
use Rattle.syntax.specs.Limits.{registers}
use Rattle.syntax.specs.Tree.{Rule}
use Rattle.machine.specs.Words.{now_of}
use Rattle.machine.specs.Theorem.{Stands}
use Rattle.searching.proofs.Trying.{Trying}
use Rattle.searching.proofs.tries.run_past.Given as goal

abbrev pub invariant-loop-used : goal.invariant-loop-used
invariant-loop-used l = (length l.regs ≡ registers)
    × (length l.work ≡ length l.initial.work)
    × ((x : Rule) → Stands l.code x l.entry → Trying l.code l.subject x l.budget l.from true l.initial.regs (length l.work) (now_of l.regs l.work l.head) l.left)

abbrev pub decreases-loop-used : goal.decreases-loop-used
decreases-loop-used l = l.left
