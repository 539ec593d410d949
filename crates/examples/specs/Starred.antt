-- 01, "Checked readings": those marked *, from the rules' bytes, of the calls themselves. One statement over one list.
-- docs/REFERENCE.md, 12 to 16
use Rattle.std.specs.Prelude.{◌≡◌, refl, List, [], ◌∷◌, map}
use Rattle.syntax.specs.declared.Reason.TheVariants.{UnclosedGroup, RepeatOnRepeat, NoSuchGroup, BadRange}
use Rattle.syntax.specs.Limits.{unset}
use Rattle.semantics.specs.Calls.{match_matched, match_not_matched, match_exhausted, match_refused, list_complete}
use Rattle.semantics.specs.Checked.{row_of, Checked, matching, listing, calls, expected, computing_checks}

unfoldable pub starred : List Checked
starred =
    matching "" 0 "" 1000 (match_matched 1) (row_of 0 0 [] ∷ [])
    ∷ matching "a" 0 "a" 1000 (match_matched 2) (row_of 0 1 [] ∷ [])
    ∷ matching "a" 0 "b" 1000 (match_not_matched 2) []
    ∷ matching "a|b" 0 "b" 1000 (match_matched 5) (row_of 0 1 [] ∷ [])
    ∷ matching "a*" 0 "aa" 1000 (match_matched 7) (row_of 0 2 [] ∷ [])
    ∷ matching "a*" 0 "aa" 6 (match_exhausted 0 6) []
    ∷ matching "(\\d+),(\\d+)" 0 "1,5" 1000 (match_matched 14) (row_of 0 3 (0 ∷ 1 ∷ 2 ∷ 3 ∷ []) ∷ [])
    ∷ matching "(a?)*" 0 "b" 1000 (match_matched 7) (row_of 0 0 (0 ∷ 0 ∷ []) ∷ [])
    ∷ listing "(a?)*" 0 "b" 1000 9 (list_complete 4 16) (row_of 0 0 (0 ∷ 0 ∷ []) ∷ row_of 0 0 [] ∷ row_of 1 1 (1 ∷ 1 ∷ []) ∷ row_of 1 1 [] ∷ [])
    ∷ listing "^(?:(\\d{1,3},\\d{3})|(\\d+,\\d+)) L$" 0 "1,500 L" 1000 9 (list_complete 2 51) (row_of 0 7 (0 ∷ 5 ∷ []) ∷ row_of 0 7 (unset ∷ unset ∷ 0 ∷ 5 ∷ []) ∷ [])
    ∷ matching "[][]" 0 "]" 1000 (match_matched 2) (row_of 0 1 [] ∷ [])
    ∷ matching "[[]]" 0 "[]" 1000 (match_matched 3) (row_of 0 2 [] ∷ [])
    ∷ matching "." 0 "\n" 1000 (match_not_matched 2) []
    ∷ matching "." 1 "\n" 1000 (match_matched 2) (row_of 0 1 [] ∷ [])
    ∷ matching "(" 0 "" 1000 (match_refused 0 UnclosedGroup) []
    ∷ matching "a**" 0 "" 1000 (match_refused 2 RepeatOnRepeat) []
    ∷ matching "\\1" 0 "" 1000 (match_refused 0 NoSuchGroup) []
    ∷ matching "[z-a]" 0 "" 1000 (match_refused 1 BadRange) []
    ∷ []

pub starred-readings : map calls starred ≡ map expected starred
unfolding computing_checks starred
starred-readings = refl
