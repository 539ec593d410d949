-- 01: "A class is a set of 256 marks, one for each byte." It is held in eight words of 32 bits.
-- docs/REFERENCE.md, 5.4
use Rattle.std.specs.Prelude.{List, Bool, ℕ, ◌/◌, ◌%◌, ◌^◌, get_or, eqb}

-- whether bit k of a number is 1
abbrev pub bit : ℕ → ℕ → Bool
bit n k = eqb (n / 2 ^ k % 2) 1

-- whether the class that words hold has the byte b: bit b % 32 of word b / 32
unfoldable pub has : List ℕ → ℕ → Bool
has words b = bit (get_or words (b / 32) 0) (b % 32)
