-- A field as it stands in the table: "Tabs, backslashes and odd bytes in fields are escaped in the usual way, so that a line can never forge a
-- column." Odd are the bytes below 20 and above 7E (hex).
-- docs/REFERENCE.md, 19.3
use Rattle.std.specs.Prelude.{List, [], ◌∷◌, ◌++◌, Bool, ◌&&◌, ℕ, ◌/◌, ◌%◌, leb, eqb, if◌then◌else◌}
use Rattle.syntax.specs.Read.{bytes}
use Rattle.text.specs.Numbers.{hex_digit}

-- `\xHH`
unfoldable pub hexed : ℕ → List ℕ
hexed b = bytes "\\x" ++ (hex_digit (b / 16) ∷ hex_digit (b % 16) ∷ [])

-- the bytes that stand for themselves
unfoldable pub is_plain : ℕ → Bool
is_plain b = leb 0x20 b && leb b 0x7E

-- a byte
unfoldable pub escape : ℕ → List ℕ
escape b =
    if eqb b 0x09 then bytes "\\t"
    else if eqb b 0x0A then bytes "\\n"
    else if eqb b 0x0D then bytes "\\r"
    else if eqb b 0x5C then bytes "\\\\"
    else if is_plain b then b ∷ []
    else hexed b

-- a field
unfoldable pub escaped : List ℕ → List ℕ
escaped [] = []
escaped (b ∷ s) = escape b ++ escaped s
