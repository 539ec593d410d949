-- The starts of a line: what is left of them, and what is told of them.
use Rattle.std.specs.Prelude.{◌≡◌, List, ℕ, suc, ◌-◌, ◌*◌, ◌≤◌, ◌<◌, length, take}
use Rattle.syntax.specs.Limits.{spans_length}
use Rattle.syntax.specs.Tree.{Rule}
use Rattle.semantics.specs.States.{State}
use Rattle.semantics.specs.Walk.{trace}
use Rattle.semantics.specs.Answers.{matched, not_matched, exhausted, Answer}
use Rattle.semantics.proofs.Laws.Loops.{SeekAt}
use Rattle.seeking.specs.declared.Sought.{Sought}
use Rattle.seeking.specs.declared.Sought.TheVariants.{Found, Nothing, Spent}

-- after so many steps, the starts from `begin` on make the answer a
pub record Seeks (sub : List ℕ) (x : Rule) (budget : ℕ) (a : Answer) (steps begin : ℕ) : Type 0 where
  pub goes : begin ≤ length sub → SeekAt sub x budget a steps begin (length sub - begin) budget (trace sub x begin)
  pub none : length sub < begin → a ≡ record { outcome = not_matched; steps = steps }

-- a start is no more than one behind the line's end, and the steps before it have few digits: a budget has 32 bits
pub record Near (sub : List ℕ) (begin steps : ℕ) : Type 0 where
  pub few : begin ≤ suc (length sub)
  pub small : steps ≤ 4294967295 * begin

-- the answer is a match from a start to a position, whose groups stand in the registers
pub record Match (regs : List ℕ) (start stop steps : ℕ) (a : Answer) : Type 0 where
  pub state : State
  pub is : a ≡ record { outcome = matched start state; steps = steps }
  pub at : state.at ≡ stop
  pub spans : state.spans ≡ take spans_length regs

-- what the code tells is the answer a
abbrev pub Answers : (regs : List ℕ) → Sought → Answer → Type 0
Answers regs (Found start stop steps) a = Match regs start stop steps a
Answers regs (Nothing steps) a = a ≡ record { outcome = not_matched; steps = steps }
Answers regs (Spent start steps) a = a ≡ record { outcome = exhausted start; steps = steps }

-- where nothing is found, the registers are as they were
abbrev pub Leaves : (old new : List ℕ) → Sought → Type 0
Leaves old new (Found start stop steps) = Unit {0}
Leaves old new (Nothing steps) = new ≡ old
Leaves old new (Spent start steps) = Unit {0}
