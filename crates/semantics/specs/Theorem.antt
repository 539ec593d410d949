-- The walk from a start lists the derivations from it: every one, nothing else, each once, by priority.
-- docs/REFERENCE.md, 14.2
use Rattle.std.specs.Prelude.{◌≡◌, List, map, ◌⊎◌, ℕ, ◌<◌}
use Rattle.syntax.specs.Tree.{Rule}
use Rattle.semantics.specs.States.{Before, code, State, row}
use Rattle.semantics.specs.Derivations.{Derivation}
use Rattle.semantics.specs.Walk.{trace, Reaches}

-- `Reaches (trace sub r start) j t`: with j steps taken, the walk's next one reaches the rule's end in the state t
pub record ListsDerivations (sub : List ℕ) (r : Rule) (start : ℕ) : Type 0 where
  -- each end is a derivation
  pub ends_derive : (j : ℕ) (t : State) → Reaches (trace sub r start) j t → Derivation sub r start t
  -- each derivation is an end
  pub derivations_end : (t : State) → Derivation sub r start t → (j : ℕ) × Reaches (trace sub r start) j t
  -- in strictly increasing priority, so each once
  pub by_priority : (i j : ℕ) (t u : State) → i < j → Reaches (trace sub r start) i t → Reaches (trace sub r start) j u → Before t.path u.path
  -- the first end with a reading is the first derivation of that reading
  pub first_of_reading : (j : ℕ) (t : State) → Reaches (trace sub r start) j t
      → ((i : ℕ) (u : State) → i < j → Reaches (trace sub r start) i u → ¬ (row start u ≡ row start t))
      → (u : State) → Derivation sub r start u → row start u ≡ row start t → (u ≡ t) ⊎ Before t.path u.path
  -- a derivation is settled by its choices, even as numbers
  pub choices_settle : (t u : State) → Derivation sub r start t → Derivation sub r start u → map code t.path ≡ map code u.path → t ≡ u
