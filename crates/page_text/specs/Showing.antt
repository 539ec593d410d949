-- What a page shows of a line, of a rule or of a name: "A line's bytes can never become markup: what is shown of a line is a proved function whose
-- output has none of `<`, `>`, `&`, quotes or control bytes but as references."
-- docs/REFERENCE.md, 19.5
use Rattle.std.specs.Prelude.{List, [], ◌∷◌, ◌++◌, ℕ, ◌/◌, ◌%◌, eqb, if◌then◌else◌}
use Rattle.syntax.specs.Read.{bytes}
use Rattle.text.specs.Numbers.{hex_digit}
use Rattle.fields_text.specs.Escaping.{is_plain}

-- A byte by its number, between ‹ and ›, which no byte is shown as: so a backslash, of which rules are full, stands for itself.
unfoldable pub numbered : ℕ → List ℕ
numbered b = bytes "&#8249;" ++ (hex_digit (b / 16) ∷ hex_digit (b % 16) ∷ bytes "&#8250;")

-- a byte
unfoldable pub show : ℕ → List ℕ
show b =
    if eqb b 0x3C then bytes "&lt;"
    else if eqb b 0x3E then bytes "&gt;"
    else if eqb b 0x26 then bytes "&amp;"
    else if eqb b 0x22 then bytes "&quot;"
    else if eqb b 0x27 then bytes "&#39;"
    else if is_plain b then b ∷ []
    else numbered b

-- a text
unfoldable pub shown : List ℕ → List ℕ
shown [] = []
shown (b ∷ s) = show b ++ shown s
