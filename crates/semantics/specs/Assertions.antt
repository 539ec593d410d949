-- 01, "Places": the zero-width assertions, which take no byte and must hold where they stand.
-- docs/REFERENCE.md, 12
use Rattle.std.specs.Prelude.{List, Bool, true, false, not, ◌&&◌, ◌||◌, ℕ, zero, suc, length, ltb, eqb}
use Rattle.charset.specs.declared.Named.TheVariants.{Word}
use Rattle.charset.specs.Named.{in_named}
use Rattle.syntax.specs.declared.Assertion.{Assertion}
use Rattle.syntax.specs.declared.Assertion.TheVariants.{TextStart, LineStart, TextEnd, LastLineEnd, LineEnd, WordBoundary, NoWordBoundary}
use Rattle.syntax.specs.Read.{byte}

-- the byte before a position, and 256 if there is none
unfoldable pub byte_before : List ℕ → ℕ → ℕ
byte_before sub zero = 256
byte_before sub (suc at) = byte sub at

unfoldable pub is_newline : ℕ → Bool
is_newline b = eqb b 0x0A

-- "a missing neighbour being none": 256 is no word byte
unfoldable pub is_word : ℕ → Bool
is_word b = in_named Word b

unfoldable pub exactly_one : Bool → Bool → Bool
exactly_one true b = not b
exactly_one false b = b

unfoldable pub holds : List ℕ → Assertion → ℕ → Bool
-- "`\A`: 0", and `^` without `m`
holds sub TextStart at = eqb at 0
-- "`^`: 0; under `m` also after an 0A that is not the last byte"
holds sub LineStart at = eqb at 0 || (is_newline (byte_before sub at) && ltb at (length sub))
-- "`\z`: the end"
holds sub TextEnd at = eqb at (length sub)
-- "`\Z` and plain `$`: the end, or before an 0A that is the last byte"
holds sub LastLineEnd at = eqb at (length sub) || (is_newline (byte sub at) && eqb (suc at) (length sub))
-- "`$` under `m`: the end or before any 0A"
holds sub LineEnd at = eqb at (length sub) || is_newline (byte sub at)
-- "`\b`: exactly one neighbour is a word byte"; "`\B`: not `\b`"
holds sub WordBoundary at = exactly_one (is_word (byte_before sub at)) (is_word (byte sub at))
holds sub NoWordBoundary at = not (exactly_one (is_word (byte_before sub at)) (is_word (byte sub at)))
