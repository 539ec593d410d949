-- The registers of a match that is made for one line after another: they are kept, and only those of the rule's own groups are unset again.
use Rattle.std.specs.Prelude.{◌≡◌, List, ℕ, ◌*◌, ◌≤◌, ◌<◌, get_or, length}
use Rattle.syntax.specs.Limits.{group_limit, spans_length, unset, registers}
use Rattle.syntax.specs.Tree.{Rule}
use Rattle.syntax.specs.WellFormed.{Proper}
use Rattle.machine.specs.Theorem.{Stands}

-- no group is set beyond so many
pub record Fresh (groups : ℕ) (regs : List ℕ) : Type 0 where
  pub size : length regs ≡ registers
  pub missing : (i : ℕ) → 2 * groups ≤ i → i < spans_length → get_or regs i 0 ≡ unset

-- no walk of a rule with so many groups sets another
abbrev pub Keeps : (code : List ℕ) (entry groups : ℕ) (regs : List ℕ) → Type 0
Keeps code entry groups regs = (x : Rule) → Stands code x entry → Proper groups x → groups ≤ group_limit → Fresh groups regs
