-- Starts that are passed over: from one start to another, none of those between can begin.
use Rattle.std.specs.Prelude.{◌≡◌, List, ◌⊎◌, Bool, false, ℕ, ◌≤◌, ◌<◌, length}
use Rattle.charset.specs.Class.{has}
use Rattle.machine.specs.Moves.{takes}
use Rattle.openings.specs.Openings.{Outside}

-- no byte from one position up to another is in the set
abbrev pub Misses : (set sub : List ℕ) (begin from : ℕ) → Type 0
Misses set sub begin from = (i : ℕ) → begin ≤ i → i < from → takes sub (has set) i ≡ false

-- from one start to another, and those between cannot begin
pub record Passed (set : List ℕ) (any : Bool) (sub : List ℕ) (cost begin from : ℕ) : Type 0 where
  pub on : begin ≤ from
  pub inside : (from ≡ begin) ⊎ (from ≤ length sub)
  pub none : cost ≡ 0 → from ≡ begin
  pub missed : (i : ℕ) → begin ≤ i → i < from → Outside set any sub i
