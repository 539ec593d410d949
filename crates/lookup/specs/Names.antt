-- How a name is found in a name index, whatever stands there. What a call fills it with is in `semantics`, NameIndex.
-- docs/REFERENCE.md, 16.7
use Rattle.std.specs.Prelude.{List, Bool, ◌&&◌, Option, Some, None, ℕ, zero, suc, ◌-◌, ◌*◌, leb, eqb, length, get_or, take, drop, if◌then◌else◌}
use Rattle.syntax.specs.Limits.{group_limit, name_limit, name_entry}
use Rattle.syntax.specs.Sets.{same_bytes}

-- the entry of a group, numbered from 1; where the index ends before, what there is of it
unfoldable pub entry_of : (names : List ℕ) (group : ℕ) → List ℕ
entry_of names group = take name_entry (drop (name_entry * (group - 1)) names)

-- "whole": all its bytes lie in the index
unfoldable pub is_whole : (entry : List ℕ) → Bool
is_whole entry = eqb (length entry) name_entry

-- "the length" stands first
unfoldable pub name_length : (entry : List ℕ) → ℕ
name_length entry = get_or entry 0 0

-- then the name, so many bytes, "whatever its padding"
unfoldable pub name_in : (entry : List ℕ) → List ℕ
name_in entry = take (name_length entry) (drop 1 entry)

-- "whole .. of that name, length 1 to 16". The name asked for needs no form: one that is empty or longer is no entry's.
unfoldable pub is_of : (name entry : List ℕ) → Bool
is_of name entry = is_whole entry && leb 1 (name_length entry) && leb (name_length entry) name_limit && same_bytes (name_in entry) name

-- the first group of that name among so many from one on, and 0 where none has it
unfoldable pub first_named : (many : ℕ) (name names : List ℕ) (group : ℕ) → ℕ
first_named zero name names group = 0
first_named (suc many) name names group = if is_of name (entry_of names group) then group else first_named many name names (suc group)

-- "the first whole one of that name .. counts", of as many entries as there can be groups; 02, j): "64 entries, all of them counting in the lookup"
unfoldable pub group_named : (name names : List ℕ) → ℕ
group_named name names = first_named group_limit name names 1

-- the same as the code answers it: 0 is none
unfoldable pub group_at : ℕ → Option ℕ
group_at zero = None
group_at (suc passed) = Some (suc passed)
