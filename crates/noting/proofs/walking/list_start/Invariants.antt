use mathlib.Core.Path.{◌≡◌}
use Prim.Native.Nat.{◌+◌, ◌≤◌}
use lib.ListN.{length, take, drop}
use Rattle.syntax.specs.Limits.{registers}
use Rattle.machine.specs.Words.{now_of}
use Rattle.index.specs.Index.{Indexed}
use Rattle.noting.specs.Noting.{Course, Going}
use Rattle.noting.proofs.walking.list_start.Given as goal

abbrev pub invariant-loop-used : goal.invariant-loop-used
invariant-loop-used l = (length l.regs ≡ registers)
    × (length l.work ≡ length l.initial.work)
    × (length l.results ≡ length l.initial.results)
    × (l.rows + l.left ≤ l.earlier + l.budget)
    × Indexed l.results (drop l.half l.work) l.heads l.spans l.earlier l.rows
    × ((k : Course) → Going l.code l.sub l.budget l.start l.earlier k l.half (now_of l.initial.regs (take l.half l.initial.work) l.initial.head) l.initial.results l.budget l.earlier → Going l.code l.sub l.budget l.start l.earlier k l.half (now_of l.regs (take l.half l.work) l.head) l.results l.left l.rows)

abbrev pub decreases-loop-used : goal.decreases-loop-used
decreases-loop-used l = l.left
