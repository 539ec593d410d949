use mathlib.Core.Path.{◌≡◌}
use Prim.Native.Nat.{ℕ, ◌≤◌, ◌<◌}
use lib.ListN.{length, get_or}
use Rattle.reasons.specs.Marks.{last_end, sign_under}
use Rattle.reasons.proofs.marks.underline.Given as goal

abbrev pub invariant-loop-i : goal.invariant-loop-i
invariant-loop-i l = (l.i ≤ length l.rule) × (length l.out ≡ length l.initial.out) × (l.end ≡ last_end l.rule l.flags l.marks l.i) × ((j : ℕ) → j < l.i → get_or l.out j 0 ≡ sign_under l.rule l.flags l.marks j)
