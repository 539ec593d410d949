-- A rule card in words: its rule, what its flags do, its budget and the number of its groups.
-- docs/REFERENCE.md, 19.4
use Rattle.std.specs.Prelude.{List, [], ◌∷◌, ◌++◌, Bool, true, false, ℕ, eqb, if◌then◌else◌}
use Rattle.syntax.specs.Read.{bytes}
use Rattle.syntax.specs.Flags.{dot_all, multiline, ignore_case, extended, depot}
use Rattle.text.specs.Lines.{newline}
use Rattle.text.specs.Numbers.{decimal}
use Rattle.report.specs.Text.{is_printed, is_odd}
use Rattle.fields_text.specs.Escaping.{hexed}
use Rattle.card_format.specs.Cards.{Card}

-- a line under a label
unfoldable pub line : (label text : List ℕ) → List ℕ
line label text = label ++ text ++ (newline ∷ [])

-- The rule ------------------------------------------------------------------------

-- A byte that can be printed stands for itself, and any other as `\xHH`. The rule itself may have such an escape: so `^` stands under those that are bytes.
unfoldable pub shown_byte : ℕ → List ℕ
shown_byte b = if is_printed b then b ∷ [] else hexed b

unfoldable pub sign_under : ℕ → List ℕ
sign_under b = if is_printed b then bytes " " else bytes "^^^^"

-- what stands for a byte, or under that
unfoldable pub one : (under : Bool) → ℕ → List ℕ
one under b = if under then sign_under b else shown_byte b

unfoldable pub each : (under : Bool) → List ℕ → List ℕ
each under [] = []
each under (b ∷ s) = one under b ++ each under s

-- the second line is there only if there is something to mark
unfoldable pub sign_line : List ℕ → List ℕ
sign_line rule = if is_odd rule then line (bytes "        ") (each true rule) else []

unfoldable pub rule_lines : List ℕ → List ℕ
rule_lines rule = line (bytes "rule    ") (each false rule) ++ sign_line rule

-- The flags -----------------------------------------------------------------------

-- of a flag that is set, its letter and what it does
unfoldable pub flag_line : (set : Bool) (words : List ℕ) → List ℕ
flag_line set words = if set then line (bytes "flag    ") words else []

-- in the order of their bits; one more flag is one line more, here and in `write_flags`
unfoldable pub set_lines : (flags : ℕ) → List ℕ
set_lines flags =
    flag_line (dot_all flags) (bytes "s: a dot takes every byte")
    ++ flag_line (multiline flags) (bytes "m: ^ and $ hold at every newline")
    ++ flag_line (ignore_case flags) (bytes "i: A to Z and a to z match each other")
    ++ flag_line (extended flags) (bytes "x: blanks, and # up to the line's end, are skipped")
    ++ flag_line (depot flags) (bytes "D: the narrower rules of the depot profile")

unfoldable pub flag_lines : (flags : ℕ) → List ℕ
flag_lines flags = if eqb flags 0 then line (bytes "flags   ") (bytes "none") else set_lines flags

-- The card ------------------------------------------------------------------------

unfoldable pub shown : Card → List ℕ
shown k =
    rule_lines k.rule
    ++ flag_lines k.flags
    ++ line (bytes "budget  ") (decimal k.budget)
    ++ line (bytes "groups  ") (decimal k.groups)
