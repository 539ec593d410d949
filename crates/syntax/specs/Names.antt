-- 02, request e): the names of groups. "A name is 1 to 16 letters, digits or underscores, and begins with no digit."
-- docs/REFERENCE.md, 9.3, 7.4
use Rattle.std.specs.Prelude.{List, [], ◌∷◌, Bool, false, not, ◌&&◌, ◌||◌, ℕ, suc, ◌+◌, length, drop, get_or, leb, if◌then◌else◌}
use Prim.Native.Char.{Char}
use Rattle.charset.specs.declared.Named.TheVariants.{Digit, Word}
use Rattle.charset.specs.Named.{in_named}
use Rattle.syntax.specs.declared.Reason.TheVariants.{BadName, NameTwice}
use Rattle.syntax.specs.Limits.{name_limit}
use Rattle.syntax.specs.Read.{byte, is, Read, sound, refused, and_then}
use Rattle.syntax.specs.Sets.{same_bytes}
use Rattle.syntax.specs.Numbers.{run}

abbrev pub Name : Type 0
Name = List ℕ

-- "letters, digits or underscores" are the word bytes
unfoldable pub word_at : List ℕ → ℕ → Name
word_at s at = run (in_named Word) (drop at s)

unfoldable pub is_name : Name → Bool
is_name n = leb 1 (length n) && leb (length n) name_limit && not (in_named Digit (get_or n 0 0))

-- the name at a position, up to the byte that closes it: "25 name ill-formed or unclosed"
unfoldable pub name_up_to : Char → List ℕ → (place at : ℕ) → Read Name
name_up_to closer s place at =
    let n = word_at s at in
    if is_name n && is closer (byte s (at + length n)) then sound n (at + length n + 1) else refused place BadName

-- The names of groups, the latest group's first; [] for a group that has none. -----

abbrev pub Names : Type 0
Names = List Name

unfoldable pub is_used : Name → Names → Bool
is_used n [] = false
is_used n (m ∷ ms) = same_bytes n m || is_used n ms

-- "26 name used twice"
unfoldable pub fresh : ℕ → Names → Read Name → Read Name
fresh place names name = and_then name (λ n next. if is_used n names then refused place NameTwice else sound n next)

-- the number of the group that has a name, and 0 if none has
unfoldable pub group_called : Name → Names → ℕ
group_called n [] = 0
group_called n (m ∷ ms) = if same_bytes n m then suc (length ms) else group_called n ms
