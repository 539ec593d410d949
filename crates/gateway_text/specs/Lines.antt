-- The lines that the gateway program writes: 01, "The gateway program".
-- docs/REFERENCE.md, 19.1
use Rattle.std.specs.Prelude.{List, [], ◌∷◌, ◌++◌, ℕ, zero, suc, ◌+◌, ◌*◌, get_or, eqb, if◌then◌else◌}
use Rattle.syntax.specs.Limits.{unset}
use Rattle.syntax.specs.Read.{bytes}
use Rattle.semantics.specs.States.{Row, row}
use Rattle.semantics.specs.Answers.{Outcome, matched, not_matched, exhausted}
use Rattle.text.specs.Lines.{newline}
use Rattle.text.specs.Numbers.{decimal}

-- a line of output
unfoldable pub line : List ℕ → List ℕ
line text = text ++ (newline ∷ [])

-- " s-e` or ` -`": a group's span, where `-` stands for a group that is not set
unfoldable pub span : ℕ → ℕ → List ℕ
span from to = if eqb from unset then bytes " -" else bytes " " ++ decimal from ++ bytes "-" ++ decimal to

-- "for each group the rule has": the spans of groups 1 to n, of which the last stands at 2n in the row
unfoldable pub spans : Row → ℕ → List ℕ
spans x zero = []
spans x (suc n) = spans x n ++ span (get_or x (2 * suc n) 0) (get_or x (2 * suc n + 1) 0)

-- "`M start end` with ` s-e` or ` -` for each group the rule has"
unfoldable pub matched_line : ℕ → Row → List ℕ
matched_line groups x = line (bytes "M " ++ decimal (get_or x 0 0) ++ bytes " " ++ decimal (get_or x 1 0) ++ spans x groups)

-- "`N`"
unfoldable pub not_matched_line : List ℕ
not_matched_line = line (bytes "N")

-- "or `X start`"
unfoldable pub exhausted_line : ℕ → List ℕ
exhausted_line start = line (bytes "X " ++ decimal start)

-- "A line over 256 bytes: `L`."
unfoldable pub too_long_line : List ℕ
too_long_line = line (bytes "L")

-- "Refused rule: `R number place`."
unfoldable pub refusal_line : (number place : ℕ) → List ℕ
refusal_line number place = line (bytes "R " ++ decimal number ++ bytes " " ++ decimal place)

-- "Unreadable file: `F`."
unfoldable pub unreadable_line : List ℕ
unreadable_line = line (bytes "F")

-- the line for what a match gives, of a rule with so many groups
unfoldable pub outcome_line : ℕ → Outcome → List ℕ
outcome_line groups (matched start t) = matched_line groups (row start t)
outcome_line groups not_matched = not_matched_line
outcome_line groups (exhausted start) = exhausted_line start
