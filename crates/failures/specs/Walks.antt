-- Walks that reach no end and stay within the budget, as those of a line that isn't matched do: they can be walked plainly to where nothing is left.
-- docs/REFERENCE.md, 16.5
use Rattle.std.specs.Prelude.{◌≡◌, List, [], ℕ, ◌+◌, ◌*◌, ◌^◌, ◌≤◌, ◌<◌, length, get_or}
use Rattle.syntax.specs.Tree.{Rule}
use Rattle.semantics.specs.Walk.{Trace, trace}
use Rattle.semantics.proofs.Laws.Loops.{Quiet}
use Rattle.machine.specs.declared.Machine.{Machine}
use Rattle.machine.specs.Moves.{Now}
use Rattle.machine.specs.Ready.{StackFits, frames, origin}
use Rattle.machine.specs.Laws.Run.{Account}
use Rattle.plain.specs.declared.Told.{Told}
use Rattle.plain.specs.declared.Told.TheVariants.{Item, Refuted}
use Rattle.plain.specs.Telling.{Explains}
use Rattle.plain.specs.Misses.{Tells, TellsLate}

-- The machine with notes is ready for a walk with no end and at most `left` events, with x told by now, and `final` in the end. All that it reads and writes
-- stays in range, and once nothing is left the registers are `first`.
pub record Plain (p sub : List ℕ) (A : Account) (final : A.X) (room left : ℕ) (first : List ℕ) (x : A.X) (now : Now) (t : Trace) : Type 0 where
  pub explains : Explains A p sub final x [] now t
  pub fits : StackFits p (frames now)
  pub low : 4 * length (frames now) + 8 * left ≤ room
  pub high : length (frames now) + 2 * left < 2 ^ 32
  pub back : origin now ≡ first
  pub quiet : Quiet t
  pub short : length t ≤ left

-- so is the walk from every start
abbrev pub Fruitless : (sub : List ℕ) → Rule → (budget : ℕ) → Type 0
Fruitless sub x budget = (n : ℕ) → n ≤ length sub → Quiet (trace sub x n) × (length (trace sub x n) ≤ budget)

-- what is told of the next move: the `(?!` that fails in it, or the items
abbrev pub Tried : (p sub regs : List ℕ) → Machine → Told → Type 0
Tried p sub regs m (Refuted r) = (get_or p m.pc 0 ≡ 17) × TellsLate p regs m r
Tried p sub regs m (Item r) = (get_or p m.pc 0 ≡ 17 → ⊥) × Tells p sub regs m r

-- what is lent to a walk
pub record Sized (code sub work : List ℕ) (budget : ℕ) : Type 0 where
  pub code_small : length code < 4294967296
  pub sub_small : length sub < 2147483648
  pub work_fits : 8 * budget ≤ length work
  pub budget_small : 2 * budget < 4294967296
