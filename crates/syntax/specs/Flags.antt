-- The flags, and what else is known when a rule is read.
-- docs/REFERENCE.md, 3
use Rattle.std.specs.Prelude.{Bool, ℕ}
use Rattle.charset.specs.Class.{bit}
use Rattle.syntax.specs.Limits.{dot_all_bit, multiline_bit, ignore_case_bit, extended_bit, depot_bit}

-- "Flags: bit 0 is `s`, bit 1 is `m`." 02: "Flag bit 2 is `i`", "Flag bit 3 is `x`".
unfoldable pub dot_all : ℕ → Bool
dot_all flags = bit flags dot_all_bit

unfoldable pub multiline : ℕ → Bool
multiline flags = bit flags multiline_bit

unfoldable pub ignore_case : ℕ → Bool
ignore_case flags = bit flags ignore_case_bit

unfoldable pub extended : ℕ → Bool
extended flags = bit flags extended_bit

-- 02, request k): the depot profile, "stricter"
unfoldable pub depot : ℕ → Bool
depot flags = bit flags depot_bit
