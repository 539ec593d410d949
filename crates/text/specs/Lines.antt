-- Lines: each ends before an 0A.
-- docs/REFERENCE.md, 16.6, 19.1
use Rattle.std.specs.Prelude.{List, [], ◌∷◌, cond, ℕ, suc, eqb}

unfoldable pub newline : ℕ
newline = 10

-- how many bytes stand before the first 0A; all of them where there is none
unfoldable pub line_length : List ℕ → ℕ
line_length [] = 0
line_length (b ∷ s) = cond (eqb b newline) 0 (suc (line_length s))
