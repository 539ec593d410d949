-- The inputs that tell the readings of 02's open points on the lookup apart (docs/DECISIONS.md), computed. One statement over one list.
-- docs/REFERENCE.md, 16.7
use Rattle.std.specs.Prelude.{◌≡◌, refl, List, [], ◌∷◌, ◌++◌, map, ℕ, suc, ◌-◌, ◌*◌, length, take, replicate}
use Prim.Native.String.{String}
use Rattle.syntax.specs.Limits.{group_limit, unset, spans_length, row_length, name_limit, name_entry}
use Rattle.syntax.specs.Read.{bytes}
use Rattle.semantics.specs.States.{Row}
use Rattle.semantics.specs.Checked.{row_of}
use Rattle.lookup.specs.declared.Found.{Found}
use Rattle.lookup.specs.declared.Found.TheVariants.{Taken, Standing, Nothing}
use Rattle.semantics.specs.NameIndex.{entry as entry_for}
use Rattle.lookup.specs.Lookup.{lookup}
use Rattle.lookup.specs.Computing.{computing_lookups}

-- One lookup and what it finds ---------------------------------------------------

-- an entry as a call writes it, and one that is padded with another byte
unfoldable pub entry : String → List ℕ
entry name = entry_for (bytes name)

unfoldable pub padded : ℕ → String → List ℕ
padded b name = length (bytes name) ∷ bytes name ++ replicate (name_limit - length (bytes name)) b

-- entries without a name
unfoldable pub nameless : ℕ → List ℕ
nameless n = replicate (n * name_entry) 0

-- a row whose last pair is this one, the others unset
unfoldable pub ending_in : ℕ → ℕ → Row
ending_in from to = row_of 0 2 (replicate (spans_length - 2) unset ++ (from ∷ to ∷ []))

-- the name asked for, the index, the line, the answer's kind and the numbers lent for its row
pub data Checked : Type 0 where
  looking : String → List ℕ → String → ℕ → List ℕ → Found → Checked

unfoldable pub finds : Checked → Found
finds (looking name names line kind numbers found) = lookup (bytes name) names (bytes line) kind numbers

unfoldable pub expected : Checked → Found
expected (looking name names line kind numbers found) = found

-- The list ------------------------------------------------------------------------

unfoldable pub examples : List Checked
examples =
    -- "the part of the line that the group took", of the first group and of another
    looking "n" (entry "n" ++ entry "m") "ab" 0 (row_of 0 2 (0 ∷ 1 ∷ 1 ∷ 2 ∷ [])) (Taken 0 1)
    ∷ looking "m" (entry "n" ++ entry "m") "ab" 0 (row_of 0 2 (0 ∷ 1 ∷ 1 ∷ 2 ∷ [])) (Taken 1 2)
    -- 02 E20: an index of 17 bytes has one entry, one of 16 none, one of 33 no second
    ∷ looking "n" (entry "n") "ab" 0 (row_of 0 2 (0 ∷ 1 ∷ [])) (Taken 0 1)
    ∷ looking "n" (take name_limit (entry "n")) "ab" 0 (row_of 0 2 (0 ∷ 1 ∷ [])) Nothing
    ∷ looking "m" (entry "n" ++ take name_limit (entry "m")) "ab" 0 (row_of 0 2 (0 ∷ 1 ∷ 1 ∷ 2 ∷ [])) Nothing
    -- the whole name, and no beginning of it
    ∷ looking "n" (entry "nm") "ab" 0 (row_of 0 2 (0 ∷ 1 ∷ [])) Nothing
    ∷ looking "nm" (entry "n") "ab" 0 (row_of 0 2 (0 ∷ 1 ∷ [])) Nothing
    -- 02 E21: of several the first
    ∷ looking "n" (entry "n" ++ entry "n") "ab" 0 (row_of 0 2 (unset ∷ unset ∷ 1 ∷ 2 ∷ [])) Standing
    -- the last entry counts, and none behind it
    ∷ looking "n" (nameless (group_limit - 1) ++ entry "n") "ab" 0 (ending_in 0 1) (Taken 0 1)
    ∷ looking "n" (nameless group_limit ++ entry "n") "ab" 0 (ending_in 0 1) Nothing
    -- a length byte of 0 is no name, one of 16 is, one of 17 is none
    ∷ looking "" (entry "") "ab" 0 (row_of 0 2 (0 ∷ 1 ∷ [])) Nothing
    ∷ looking "abcdefghijklmnop" (entry "abcdefghijklmnop") "ab" 0 (row_of 0 2 (0 ∷ 1 ∷ [])) (Taken 0 1)
    ∷ looking "abcdefghijklmnop" (suc name_limit ∷ bytes "abcdefghijklmnop") "ab" 0 (row_of 0 2 (0 ∷ 1 ∷ [])) Nothing
    ∷ looking "abcdefghijklmnopq" (entry "abcdefghijklmnop") "ab" 0 (row_of 0 2 (0 ∷ 1 ∷ [])) Nothing
    -- padding is not looked at
    ∷ looking "n" (padded 0x51 "n") "ab" 0 (row_of 0 2 (0 ∷ 1 ∷ [])) (Taken 0 1)
    -- 02 E22: the name asked for needs no form, and the empty one is unknown
    ∷ looking "1" (entry "1") "ab" 0 (row_of 0 2 (0 ∷ 1 ∷ [])) (Taken 0 1)
    ∷ looking "" (entry "n") "ab" 0 (row_of 0 2 (0 ∷ 1 ∷ [])) Nothing
    -- 02 E24: every pair of the row is looked at, those of other groups too
    ∷ looking "n" (entry "n") "ab" 0 (take (row_length - 1) (row_of 0 2 (0 ∷ 1 ∷ [])) ++ (0 ∷ [])) Nothing
    ∷ looking "n" (entry "n") "ab" 0 (row_of 0 2 (0 ∷ 1 ∷ unset ∷ 1 ∷ [])) Nothing
    ∷ looking "n" (entry "n") "ab" 0 (row_of 0 2 (0 ∷ 1 ∷ 1 ∷ unset ∷ [])) Nothing
    ∷ looking "n" (entry "n") "ab" 0 (row_of 0 2 (0 ∷ 1 ∷ 2 ∷ 1 ∷ [])) Nothing
    -- 02 L17: a span before the start and one behind the end, both within the line; and one behind the line
    ∷ looking "n" (entry "n") "ab" 0 (row_of 1 2 (0 ∷ 1 ∷ [])) (Taken 0 1)
    ∷ looking "n" (entry "n") "ab" 0 (row_of 0 1 (1 ∷ 2 ∷ [])) (Taken 1 2)
    ∷ looking "n" (entry "n") "ab" 0 (row_of 0 1 (1 ∷ 3 ∷ [])) Nothing
    -- an end before the start, and one behind the line
    ∷ looking "n" (entry "n") "ab" 0 (row_of 2 1 []) Nothing
    ∷ looking "n" (entry "n") "ab" 0 (row_of 0 3 (0 ∷ 1 ∷ [])) Nothing
    -- 02 E27: a number fewer than a row has, and one more
    ∷ looking "n" (entry "n") "ab" 0 (take (row_length - 1) (row_of 0 2 (0 ∷ 1 ∷ []))) Nothing
    ∷ looking "n" (entry "n") "ab" 0 (row_of 0 2 (0 ∷ 1 ∷ []) ++ (7 ∷ [])) (Taken 0 1)
    -- 02 J2: an old row, of 32 groups
    ∷ looking "n" (entry "n") "ab" 0 (take 66 (row_of 0 2 (0 ∷ 1 ∷ []))) Nothing
    -- 02 E28: a group that took nothing, one that is unset, an unknown field, and lines that did not match
    ∷ looking "n" (entry "n") "ab" 0 (row_of 0 2 (1 ∷ 1 ∷ [])) (Taken 1 1)
    ∷ looking "n" (entry "n") "ab" 0 (row_of 0 2 []) Standing
    ∷ looking "m" (entry "n") "ab" 0 (row_of 0 2 (0 ∷ 1 ∷ [])) Nothing
    ∷ looking "n" [] "ab" 0 (row_of 0 2 (0 ∷ 1 ∷ [])) Nothing
    ∷ looking "n" (entry "n") "ab" 1 (row_of 0 2 (0 ∷ 1 ∷ [])) Nothing
    ∷ looking "n" (entry "n") "ab" 2 (row_of 0 2 (0 ∷ 1 ∷ [])) Nothing
    ∷ looking "n" (entry "n") "ab" 3 (row_of 0 2 (0 ∷ 1 ∷ [])) Nothing
    ∷ []

pub examples-found : map finds examples ≡ map expected examples
unfolding computing_lookups row_of padded entry nameless ending_in finds expected examples
examples-found = refl
