-- What a caller needs to see that a rule fits: its registers, and the slots of its groups.
use Rattle.std.specs.Prelude.{ℕ, ◌+◌, ◌≤◌}
use Rattle.std.proofs.Common.{arith}
use Rattle.syntax.specs.Limits.{group_limit, height_limit, spans_length, slot, registers}
use Rattle.syntax.specs.Tree.{Rule}
use Rattle.syntax.specs.WellFormed.{Proper, height, WellFormed}
use Rattle.linker.specs.Linking.{Fits}

-- the registers behind the captures are enough for a rule whose parts nest no deeper than they may
pub fits_whole : (groups : ℕ) (t : Rule) → groups ≤ group_limit → Proper groups t → height t ≤ height_limit → Fits groups spans_length t
unfolding registers
fits_whole groups t f p h = record { few = f; proper = p; room = omega arith }

pub fits-formed : (groups : ℕ) (t : Rule) → WellFormed groups t → Fits groups spans_length t
fits-formed groups t w = fits_whole groups t w.few w.proper w.nests

-- a group's span lies among the captures
pub slot-fits : (n : ℕ) → 1 ≤ n → n ≤ group_limit → slot n + 2 ≤ spans_length
unfolding slot spans_length group_limit
slot-fits n l h = omega arith
