-- 01, "Named sets": which bytes each set has, "with bytes 80 to FF in no named set". 02, request a), takes two of them out of that: "in
-- perlrecharclass `\h` and `\v` don't change with `/a`. So `\h` also has A0 and `\v` also has 85; `\H` and `\V` lose them. `\s`, blank, space
-- and `\w` stay." `\H` and `\V` are complements of these sets, so that they have no lines of their own.
-- docs/REFERENCE.md, 5.1, 5.4
use Rattle.std.specs.Prelude.{List, [], ◌∷◌, Bool, false, ◌&&◌, ◌||◌, ℕ, leb}
use Rattle.charset.specs.declared.Named.{Named}
use Rattle.charset.specs.declared.Named.TheVariants.{Digit, Word, Space, Horizontal, Vertical, Alpha, Upper, Lower, Alnum, Xdigit, Blank, Cntrl, Ascii, Print, Graph, Punct}

infix 70 ◌to◌
-- the bytes from the first to the second, both included
pub data Range : Type 0 where
  ◌to◌ : ℕ → ℕ → Range

unfoldable pub ranges : Named → List Range
ranges Digit = 0x30 to 0x39 ∷ []
ranges Word = 0x30 to 0x39 ∷ 0x41 to 0x5A ∷ 0x5F to 0x5F ∷ 0x61 to 0x7A ∷ []
ranges Space = 0x09 to 0x0D ∷ 0x20 to 0x20 ∷ []
ranges Horizontal = 0x09 to 0x09 ∷ 0x20 to 0x20 ∷ 0xA0 to 0xA0 ∷ []  -- A0 by 02
ranges Vertical = 0x0A to 0x0D ∷ 0x85 to 0x85 ∷ []  -- 85 by 02
ranges Alpha = 0x41 to 0x5A ∷ 0x61 to 0x7A ∷ []
ranges Upper = 0x41 to 0x5A ∷ []
ranges Lower = 0x61 to 0x7A ∷ []
ranges Alnum = 0x30 to 0x39 ∷ 0x41 to 0x5A ∷ 0x61 to 0x7A ∷ []
ranges Xdigit = 0x30 to 0x39 ∷ 0x41 to 0x46 ∷ 0x61 to 0x66 ∷ []
ranges Blank = 0x09 to 0x09 ∷ 0x20 to 0x20 ∷ []
ranges Cntrl = 0x00 to 0x1F ∷ 0x7F to 0x7F ∷ []
ranges Ascii = 0x00 to 0x7F ∷ []
ranges Print = 0x20 to 0x7E ∷ []
ranges Graph = 0x21 to 0x7E ∷ []
ranges Punct = 0x21 to 0x2F ∷ 0x3A to 0x40 ∷ 0x5B to 0x60 ∷ 0x7B to 0x7E ∷ []

unfoldable pub in_range : ℕ → Range → Bool
in_range b (low to high) = leb low b && leb b high

unfoldable pub in_ranges : ℕ → List Range → Bool
in_ranges b [] = false
in_ranges b (r ∷ rs) = in_range b r || in_ranges b rs

unfoldable pub in_named : Named → ℕ → Bool
in_named set b = in_ranges b (ranges set)

-- 01: "The table has 256 entries, one for each byte value, with one mark for each named set." The sets in the order of their marks,
-- from bit 0 on.
unfoldable pub marked : List Named
marked = Digit ∷ Word ∷ Space ∷ Horizontal ∷ Vertical ∷ Alpha ∷ Upper ∷ Lower ∷ Alnum ∷ Xdigit ∷ Blank ∷ Cntrl ∷ Ascii ∷ Print ∷ Graph ∷ Punct ∷ []

-- the bit of a set's mark: its place in that order
abbrev pub mark_of : Named → ℕ
mark_of Digit = 0
mark_of Word = 1
mark_of Space = 2
mark_of Horizontal = 3
mark_of Vertical = 4
mark_of Alpha = 5
mark_of Upper = 6
mark_of Lower = 7
mark_of Alnum = 8
mark_of Xdigit = 9
mark_of Blank = 10
mark_of Cntrl = 11
mark_of Ascii = 12
mark_of Print = 13
mark_of Graph = 14
mark_of Punct = 15
