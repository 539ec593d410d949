-- Numbers as text.
-- docs/REFERENCE.md, 19.1
use Rattle.std.specs.Prelude.{List, [], ◌∷◌, ◌++◌, cond, ℕ, zero, suc, ◌+◌, ◌/◌, ◌%◌, ltb, if◌then◌else◌}

-- the ASCII code of a decimal digit
abbrev pub digit : ℕ → ℕ
digit d = 48 + d

-- A number below ten is one digit. Any other is the digits of its tenth, and then its last. The first argument is at least the number of
-- tenths to take.
unfoldable pub decimal_within : ℕ → ℕ → List ℕ
decimal_within zero n = digit n ∷ []
decimal_within (suc tenths) n = cond (ltb n 10) (digit n ∷ []) (decimal_within tenths (n / 10) ++ (digit (n % 10) ∷ []))

-- the decimal digits of a number, with no zero in front
unfoldable pub decimal : ℕ → List ℕ
decimal n = decimal_within n n

-- `0` to `9`, then `A` to `F`
unfoldable pub hex_digit : ℕ → ℕ
hex_digit d = if ltb d 10 then 48 + d else 55 + d
