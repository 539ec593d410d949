-- The quantities of 01, "The gateway program".
-- docs/REFERENCE.md, 2, 19.1
use Rattle.std.specs.Prelude.{ℕ, suc}

-- "A line over 256 bytes"
unfoldable pub line_limit : ℕ
line_limit = 256

-- the bytes of a line that are kept: with one more than the limit, a line is known to be over it
unfoldable pub held_limit : ℕ
unfolding line_limit
held_limit = suc line_limit

-- "budget 1,000"
unfoldable pub gateway_budget : ℕ
gateway_budget = 1000

-- "(flags 0)"
unfoldable pub gateway_flags : ℕ
gateway_flags = 0
