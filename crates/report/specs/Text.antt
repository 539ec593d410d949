-- The text of a line as it is shown: one column for each byte, whatever the byte is.
-- docs/REFERENCE.md, 19.2
use Rattle.std.specs.Prelude.{List, [], ◌∷◌, map, Bool, true, false, not, ◌&&◌, ◌||◌, ℕ, leb}

abbrev pub pick : {A : Type 0} → Bool → A → A → A
pick true a b = a
pick false a b = b

-- the columns of a window
abbrev pub width : ℕ
width = 64

-- the bytes that are printed in one column, "print" of document 01
unfoldable pub is_printed : ℕ → Bool
is_printed b = leb 0x20 b && leb b 0x7E

-- such a byte is shown as it is, and any other as a dot
unfoldable pub shown_byte : ℕ → ℕ
shown_byte b = pick (is_printed b) b 0x2E

unfoldable pub shown_text : List ℕ → List ℕ
shown_text line = map shown_byte line

-- whether a byte of a line is shown as a dot in its place
unfoldable pub is_odd : List ℕ → Bool
is_odd [] = false
is_odd (b ∷ bs) = not (is_printed b) || is_odd bs
