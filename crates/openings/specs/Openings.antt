-- Starts that cannot begin: a set of bytes and a number of steps, such that the walk from a start at 1 or later whose byte is not in the set
-- makes so many steps and reaches no end.
-- docs/REFERENCE.md, 14.3
use Rattle.std.specs.Prelude.{◌≡◌, List, [], ◌⊎◌, Bool, false, ℕ, ◌≤◌}
use Rattle.charset.specs.Class.{has}
use Rattle.semantics.specs.Walk.{Trace}
use Rattle.machine.specs.Moves.{Bytes, go, takes}
use Rattle.machine.specs.Ready.{nothing, until, Ready}
use Rattle.openings.specs.declared.Opening.{Opening}

-- no byte at this start can begin the rule
abbrev pub Outside : List ℕ → Bool → List ℕ → ℕ → Type 0
Outside set any sub at = (any ≡ false) ⊎ (takes sub (has set) at ≡ false)

pub record Skips (p : List ℕ) (entry budget : ℕ) (set : List ℕ) (any : Bool) (cost : ℕ) : Type 0 where
  pub few : cost ≤ budget
  pub tells : (sub regs : List ℕ) (room : ℕ) (first : List ℕ) (t : Trace) (begin : ℕ) → Bytes sub → Ready p sub room budget first (go entry begin regs []) t → 1 ≤ begin → Outside set any sub begin → until budget 0 t ≡ nothing cost

-- nothing is known, or a set and its steps
abbrev pub Opens : (p : List ℕ) (entry budget : ℕ) → Opening → Type 0
Opens p entry budget o = (o.cost ≡ 0) ⊎ Skips p entry budget o.set o.any o.cost
