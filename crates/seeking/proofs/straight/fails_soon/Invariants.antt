use Prim.Native.Nat.{ℕ, ◌+◌, ◌-◌, ◌≤◌}
use Rattle.openings.specs.Failing.{Fails}
use Rattle.seeking.proofs.straight.fails_soon.Given as goal

abbrev pub invariant-loop-left : goal.invariant-loop-left
invariant-loop-left l = (l.left ≤ l.looks) × ((n : ℕ) → Fails l.code l.sub l.at l.pc n → Fails l.code l.sub l.begin l.entry (l.looks - l.left + n))

abbrev pub decreases-loop-left : goal.decreases-loop-left
decreases-loop-left l = l.left
