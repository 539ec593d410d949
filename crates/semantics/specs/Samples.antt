-- The examples that hold the definitions in their place: what no law says of them, and a must-fail edit changes. They are among the traps of the crate
-- `examples`, which has all of them and takes long to check.
-- docs/REFERENCE.md, 12, 14.1
use Rattle.std.specs.Prelude.{◌≡◌, refl, List, [], ◌∷◌, map}
use Rattle.semantics.specs.Calls.{match_matched, match_not_matched, list_complete}
use Rattle.semantics.specs.Checked.{row_of, Checked, matching, listing, calls, expected, computing_checks}

unfoldable pub samples : List Checked
samples =
    -- trap 4: `$` before a final newline; `^` under `m` not after it
    matching "a$" 0 "a\n" 99 (match_matched 3) (row_of 0 1 [] ∷ [])
    ∷ listing "^" 2 "a\nb\n" 99 9 (list_complete 2 7) (row_of 0 0 [] ∷ row_of 2 2 [] ∷ [])
    -- S7: a reference to an unset group costs one step
    ∷ matching "\\1(a)" 0 "a" 99 (match_not_matched 2) []
    -- 02 L1: an inner end costs its step
    ∷ matching "(?=a)" 0 "a" 99 (match_matched 4) (row_of 0 0 [] ∷ [])
    ∷ []

pub samples-hold : map calls samples ≡ map expected samples
unfolding computing_checks samples
samples-hold = refl
