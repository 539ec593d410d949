-- What a move tells an explanation: the items that failed in it. 02, request f): "A failed item is a byte item, a place or a reference"; and l): "a `(?!`
-- that fails is a failed item too, tried when it is entered".
-- docs/REFERENCE.md, 14.4
use Rattle.std.specs.Prelude.{◌≡◌, ◌⊎◌, List, [], ◌∷◌, ◌++◌, Bool, true, false, Option, None, Some, ℕ, ◌+◌, get_or}
use Rattle.semantics.specs.States.{moved}
use Rattle.semantics.specs.Items.{fails, goes}
use Rattle.semantics.specs.Walk.{Trace}
use Rattle.semantics.specs.Explanations.{Failure, failed}
use Rattle.machine.specs.declared.Machine.{Machine}
use Rattle.machine.specs.Code.{same_as, folded_of}
use Rattle.machine.specs.Moves.{Move, state, tested, move}
use Rattle.machine.specs.Words.{configuration_of}
use Rattle.plain.specs.declared.Miss.{Miss}
use Rattle.plain.specs.declared.Refuted.{Refuted}

-- the events of a move
abbrev pub emitted : Move → Trace
emitted m = m.first ∷ m.more

-- one item that failed, or none
unfoldable pub failed_if : Bool → Failure → List Failure
failed_if true x = x ∷ []
failed_if false x = []

-- what the code tells, in an attempt from `start`
unfoldable pub missed_of : (start : ℕ) → Option Miss → List Failure
missed_of start None = []
missed_of start (Some r) = record { start = start; at = r.at; place = r.place } ∷ []

-- these failures, or each of them twice: `\R` may try a return in both of its branches
abbrev pub OnceOrTwice : (l m : List Failure) → Type 0
OnceOrTwice l m = (l ≡ m) ⊎ (l ≡ m ++ m)

-- it tells the items that fail in the move from where the machine stands; what is left to try does not matter
abbrev pub Tells : (p sub regs : List ℕ) → Machine → Option Miss → Type 0
Tells p sub regs m r = (start : ℕ) (work : List ℕ) → OnceOrTwice (failed start (emitted (move p sub (configuration_of regs work m)))) (missed_of start r)

-- the `(?!` that fails in it, by its note and its place
pub record TellsLate (p regs : List ℕ) (m : Machine) (r : Refuted) : Type 0 where
  pub note : r.note ≡ get_or regs (get_or p (m.pc + 2) 0 + 1) 0
  pub place : r.place ≡ get_or p (m.pc + 3) 0

-- what the code tells of the reference at pc, the position behind it or that it fails, is what trying it at a position comes to
abbrev pub RefersAs : (p sub regs : List ℕ) → (pc at : ℕ) → Option ℕ → Type 0
RefersAs p sub regs pc at None = tested sub (same_as (folded_of (get_or p (pc + 4) 0)) (get_or p (pc + 3) 0)) (state at regs) ≡ fails
RefersAs p sub regs pc at (Some behind) = tested sub (same_as (folded_of (get_or p (pc + 4) 0)) (get_or p (pc + 3) 0)) (state at regs) ≡ goes (moved behind (state at regs))
