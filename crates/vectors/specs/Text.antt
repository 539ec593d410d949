-- The text that test vectors are written in: hex digits, decimal numbers and words.
use Rattle.std.specs.Prelude.{◌≡◌, List, [], ◌∷◌, ◌++◌, ℕ, ◌+◌, ◌-◌, ◌*◌, min, length, take, drop, eqb, if◌then◌else◌}
use Prim.Native.Char.{code}
use Rattle.io.specs.Counts.{IsPrefixLen}
use Rattle.syntax.specs.Read.{between}

-- What digits stand for -------------------------------------------------------

-- what a hex digit stands for; 0 for any other byte
unfoldable pub digit_value : ℕ → ℕ
digit_value b =
    if between "0" "9" b then b - code "0"
    else if between "a" "f" b then b - code "a" + 10
    else 0

-- the bytes that hex digits stand for, two to a byte; a digit left over stands for none
unfoldable pub bytes_of : List ℕ → List ℕ
bytes_of (high ∷ low ∷ ds) = (digit_value high * 16 + digit_value low) ∷ bytes_of ds
bytes_of (d ∷ []) = []
bytes_of [] = []

-- the decimal number that digits stand for, behind those that stand for n
unfoldable pub decimal : ℕ → List ℕ → ℕ
decimal n [] = n
decimal n (d ∷ ds) = decimal (n * 10 + digit_value d) ds

-- the same from none, held at a limit
unfoldable pub number_of : List ℕ → ℕ → ℕ
number_of digits limit = min limit (decimal 0 digits)

-- r bytes of the digits' are written over the first of the old ones, as many as there are and as there is room for
pub record Decoded (digits old : List ℕ) (r : ℕ) (new : List ℕ) : Type 0 where
  pub number : r ≡ min (length old) (length (bytes_of digits))
  pub bytes : new ≡ take r (bytes_of digits) ++ drop r old
  pub counts : IsPrefixLen r new  -- follows from the two, and is stated for whoever lends the part that was written

-- Ends ------------------------------------------------------------------------

-- the bytes before the first x; all of them where there is none
unfoldable pub up_to : ℕ → List ℕ → List ℕ
up_to x [] = []
up_to x (b ∷ bs) = if eqb b x then [] else b ∷ up_to x bs

-- the position behind the bytes that stand from a position up to the first x
unfoldable pub end_by : ℕ → List ℕ → ℕ → ℕ
end_by x s from = from + length (up_to x (drop from s))

-- a word ends before a blank, or where its line does
abbrev pub word_end : List ℕ → ℕ → ℕ → ℕ
word_end s from to = end_by 32 (take to s) from

-- the next word begins behind the blank
unfoldable pub next_word : ℕ → ℕ → ℕ
next_word from to = min (from + 1) to
