-- Nodes as instructions: how the numbers at a position of the compiled rule are read, and what must be in range for that. Which numbers a
-- node has is listed in the crate `syntax`, `Compiled`.
-- docs/REFERENCE.md, 4.5
use Rattle.std.specs.Prelude.{List, Bool, true, false, ℕ, zero, suc, ◌+◌, ◌≤◌, ◌<◌, length, get_or, drop, eqb}
use Rattle.charset.specs.Class.{has}
use Rattle.syntax.specs.declared.Assertion.{Assertion}
use Rattle.syntax.specs.declared.Assertion.TheVariants.{TextStart, LineStart, TextEnd, LastLineEnd, LineEnd, WordBoundary, NoWordBoundary}
use Rattle.syntax.specs.declared.Greed.{Greed}
use Rattle.syntax.specs.declared.Greed.TheVariants.{Greedy, Lazy}
use Rattle.syntax.specs.declared.Most.{Most}
use Rattle.syntax.specs.declared.Most.TheVariants.{AtMost, Unlimited}
use Rattle.syntax.specs.Limits.{unset, spans_length, registers}

abbrev pub Program : Type 0
Program = List ℕ

-- Instructions ------------------------------------------------------------

-- what an item's node tests
pub data Test : Type 0 where
  in_set : (ℕ → Bool) → Test  -- the next byte is in the set
  holding : Assertion → Test
  same_as : Bool → ℕ → Test  -- the bytes of a span stand here too, folded or not; the slot of that span

-- what a repeat's two nodes share
pub record Repeat : Type 0 where
  pub least : ℕ
  pub most : Most
  pub greed : Greed
  pub register : ℕ  -- holds its rounds; the one behind it, where the last round began
  pub body : ℕ
  pub next : ℕ

-- A number `repeat` is where the numbers of a repeat stand.
pub data Instruction : Type 0 where
  tests : Test → (place next : ℕ) → Instruction
  opens : (register body : ℕ) → Instruction
  closes : (register slot next : ℕ) → Instruction
  branches : (body other : ℕ) → Instruction
  last_branch : (body : ℕ) → Instruction
  enters : (repeat : ℕ) → Instruction
  loops : (repeat : ℕ) → Instruction
  runs : (repeat : ℕ) → Instruction
  ends : Instruction
  breaks : (place next : ℕ) → Instruction  -- `\R`
  -- held parts and looking ahead: the register holds how many frames there were when the part was entered; the one behind it, where that was
  marks : (register body : ℕ) → Instruction  -- one is entered
  keeps : (register next : ℕ) → Instruction  -- the inner end of a held part
  returns : (register next : ℕ) → Instruction  -- of looking ahead
  forbids : (register body next : ℕ) → Instruction  -- negative looking ahead is entered
  refutes : (register place : ℕ) → Instruction  -- its inner end

-- Reading numbers -----------------------------------------------------------

unfoldable pub pick_most : Bool → ℕ → Most
pick_most true n = Unlimited
pick_most false n = AtMost n

unfoldable pub most_of : ℕ → Most
most_of n = pick_most (eqb n unset) n

unfoldable pub greed_of : ℕ → Greed
greed_of zero = Greedy
greed_of (suc n) = Lazy

unfoldable pub folded_of : ℕ → Bool
folded_of n = eqb n 1

unfoldable pub assertion_of : ℕ → Assertion
assertion_of zero = TextStart
assertion_of (suc zero) = LineStart
assertion_of (suc (suc zero)) = TextEnd
assertion_of (suc (suc (suc zero))) = LastLineEnd
assertion_of (suc (suc (suc (suc zero)))) = LineEnd
assertion_of (suc (suc (suc (suc (suc zero))))) = WordBoundary
assertion_of (suc (suc (suc (suc (suc (suc n)))))) = NoWordBoundary

-- the repeat whose numbers stand at q
unfoldable pub repeat_at : Program → ℕ → Repeat
repeat_at p q = record {
  least = get_or p q 0;
  most = most_of (get_or p (q + 1) 0);
  greed = greed_of (get_or p (q + 2) 0);
  register = get_or p (q + 3) 0;
  body = get_or p (q + 4) 0;
  next = get_or p (q + 5) 0;
}

-- the node at pc, by the number of its kind
abbrev pub decode_as : ℕ → Program → ℕ → Instruction
decode_as zero p pc = tests (in_set (has (drop (pc + 3) p))) (get_or p (pc + 2) 0) (get_or p (pc + 1) 0)
decode_as (suc zero) p pc = tests (holding (assertion_of (get_or p (pc + 3) 0))) (get_or p (pc + 2) 0) (get_or p (pc + 1) 0)
decode_as (suc (suc zero)) p pc = ends
decode_as (suc (suc (suc zero))) p pc = opens (get_or p (pc + 2) 0) (get_or p (pc + 1) 0)
decode_as (suc (suc (suc (suc zero)))) p pc = closes (get_or p (pc + 2) 0) (get_or p (pc + 3) 0) (get_or p (pc + 1) 0)
decode_as (suc (suc (suc (suc (suc zero))))) p pc = branches (get_or p (pc + 1) 0) (get_or p (pc + 2) 0)
decode_as (suc (suc (suc (suc (suc (suc zero)))))) p pc = last_branch (get_or p (pc + 1) 0)
decode_as (suc (suc (suc (suc (suc (suc (suc zero))))))) p pc = enters (pc + 2)
decode_as (suc (suc (suc (suc (suc (suc (suc (suc zero)))))))) p pc = loops (pc + 1)
decode_as (suc (suc (suc (suc (suc (suc (suc (suc (suc zero))))))))) p pc = ends
decode_as (suc (suc (suc (suc (suc (suc (suc (suc (suc (suc zero)))))))))) p pc = runs (pc + 2)
decode_as (suc (suc (suc (suc (suc (suc (suc (suc (suc (suc (suc zero))))))))))) p pc = tests (same_as (folded_of (get_or p (pc + 4) 0)) (get_or p (pc + 3) 0)) (get_or p (pc + 2) 0) (get_or p (pc + 1) 0)
decode_as (suc (suc (suc (suc (suc (suc (suc (suc (suc (suc (suc (suc zero)))))))))))) p pc = breaks (get_or p (pc + 2) 0) (get_or p (pc + 1) 0)
decode_as (suc (suc (suc (suc (suc (suc (suc (suc (suc (suc (suc (suc (suc zero))))))))))))) p pc = marks (get_or p (pc + 2) 0) (get_or p (pc + 1) 0)
decode_as (suc (suc (suc (suc (suc (suc (suc (suc (suc (suc (suc (suc (suc (suc zero)))))))))))))) p pc = keeps (get_or p (pc + 2) 0) (get_or p (pc + 1) 0)
decode_as (suc (suc (suc (suc (suc (suc (suc (suc (suc (suc (suc (suc (suc (suc (suc zero))))))))))))))) p pc = returns (get_or p (pc + 2) 0) (get_or p (pc + 1) 0)
decode_as (suc (suc (suc (suc (suc (suc (suc (suc (suc (suc (suc (suc (suc (suc (suc (suc zero)))))))))))))))) p pc = forbids (get_or p (pc + 2) 0) (get_or p (pc + 1) 0) (get_or p (pc + 3) 0)
decode_as (suc (suc (suc (suc (suc (suc (suc (suc (suc (suc (suc (suc (suc (suc (suc (suc (suc zero))))))))))))))))) p pc = refutes (get_or p (pc + 2) 0) (get_or p (pc + 3) 0)
decode_as (suc (suc (suc (suc (suc (suc (suc (suc (suc (suc (suc (suc (suc (suc (suc (suc (suc (suc n)))))))))))))))))) p pc = ends

unfoldable pub decode : Program → ℕ → Instruction
decode p pc = decode_as (get_or p pc 0) p pc

-- In range --------------------------------------------------------------------

-- a repeat's six numbers, and its two registers
abbrev pub RepeatFits : Program → ℕ → Type 0
RepeatFits p q = (q + 6 ≤ length p) × (get_or p (q + 3) 0 + 2 ≤ registers)

-- the numbers of the node at pc, and the registers that it names; no node is of the kind 2, or of one above 17
abbrev pub FitsAs : ℕ → Program → ℕ → Type 0
FitsAs zero p pc = pc + 11 ≤ length p
FitsAs (suc zero) p pc = pc + 4 ≤ length p
FitsAs (suc (suc zero)) p pc = ⊥
FitsAs (suc (suc (suc zero))) p pc = (pc + 3 ≤ length p) × (get_or p (pc + 2) 0 + 2 ≤ registers)
FitsAs (suc (suc (suc (suc zero)))) p pc = (pc + 4 ≤ length p) × (get_or p (pc + 2) 0 + 2 ≤ registers) × (get_or p (pc + 3) 0 + 2 ≤ spans_length)
FitsAs (suc (suc (suc (suc (suc zero))))) p pc = pc + 3 ≤ length p
FitsAs (suc (suc (suc (suc (suc (suc zero)))))) p pc = pc + 2 ≤ length p
FitsAs (suc (suc (suc (suc (suc (suc (suc zero))))))) p pc = RepeatFits p (pc + 2)
FitsAs (suc (suc (suc (suc (suc (suc (suc (suc zero)))))))) p pc = RepeatFits p (pc + 1)
FitsAs (suc (suc (suc (suc (suc (suc (suc (suc (suc zero))))))))) p pc = Unit {0}
FitsAs (suc (suc (suc (suc (suc (suc (suc (suc (suc (suc zero)))))))))) p pc = (pc + 8 ≤ length p) × (get_or p (pc + 6) 0 + 11 ≤ length p)
FitsAs (suc (suc (suc (suc (suc (suc (suc (suc (suc (suc (suc zero))))))))))) p pc = (pc + 5 ≤ length p) × (get_or p (pc + 3) 0 + 2 ≤ spans_length)
FitsAs (suc (suc (suc (suc (suc (suc (suc (suc (suc (suc (suc (suc zero)))))))))))) p pc = pc + 3 ≤ length p
FitsAs (suc (suc (suc (suc (suc (suc (suc (suc (suc (suc (suc (suc (suc zero))))))))))))) p pc = (pc + 3 ≤ length p) × (get_or p (pc + 2) 0 + 2 ≤ registers)
FitsAs (suc (suc (suc (suc (suc (suc (suc (suc (suc (suc (suc (suc (suc (suc zero)))))))))))))) p pc = (pc + 3 ≤ length p) × (get_or p (pc + 2) 0 + 2 ≤ registers)
FitsAs (suc (suc (suc (suc (suc (suc (suc (suc (suc (suc (suc (suc (suc (suc (suc zero))))))))))))))) p pc = (pc + 3 ≤ length p) × (get_or p (pc + 2) 0 + 2 ≤ registers)
FitsAs (suc (suc (suc (suc (suc (suc (suc (suc (suc (suc (suc (suc (suc (suc (suc (suc zero)))))))))))))))) p pc = (pc + 4 ≤ length p) × (get_or p (pc + 2) 0 + 2 ≤ registers)
FitsAs (suc (suc (suc (suc (suc (suc (suc (suc (suc (suc (suc (suc (suc (suc (suc (suc (suc zero))))))))))))))))) p pc = (pc + 4 ≤ length p) × (get_or p (pc + 2) 0 + 2 ≤ registers)
FitsAs (suc (suc (suc (suc (suc (suc (suc (suc (suc (suc (suc (suc (suc (suc (suc (suc (suc (suc n)))))))))))))))))) p pc = ⊥

pub record Fits (p : Program) (pc : ℕ) : Type 0 where
  pub here : pc < length p
  pub node : FitsAs (get_or p pc 0) p pc
