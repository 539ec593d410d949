-- What a card has room for.
-- docs/REFERENCE.md, 17.2
use Rattle.std.specs.Prelude.{List, ℕ, ◌≤◌, ◌<◌, length}
use Rattle.syntax.specs.Limits.{rule_limit}

-- what a card has room for
pub record Writable (rule : List ℕ) (flags budget groups : ℕ) : Type 0 where
  pub rule_fits : length rule ≤ rule_limit
  pub flags_fit : flags < 256
  pub budget_fits : budget < 65536
  pub groups_fit : groups < 256
