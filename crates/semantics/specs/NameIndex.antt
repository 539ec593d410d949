-- The name index. 02, request e): for each group that a rule can have "17 bytes, the length (0 if none) and the name padded with 00"; j): "The name index
-- becomes 64 entries".
-- docs/REFERENCE.md, 15.4
use Rattle.std.specs.Prelude.{List, [], ◌∷◌, ◌++◌, ℕ, zero, suc, length, take, replicate, eqb, if◌then◌else◌}
use Rattle.syntax.specs.Limits.{group_limit, name_entry}
use Rattle.syntax.specs.Names.{Name, Names}

-- the name of a group, by its number; [] if it has none, or there is no such group
unfoldable pub name_of : Names → ℕ → Name
name_of [] group = []
name_of (n ∷ ns) group = if eqb group (suc (length ns)) then n else name_of ns group

unfoldable pub entry : Name → List ℕ
entry n = take name_entry (length n ∷ (n ++ replicate name_entry 0))

-- the entries of so many groups, from one on
unfoldable pub entries : (many : ℕ) → Names → (group : ℕ) → List ℕ
entries zero names group = []
entries (suc many) names group = entry (name_of names group) ++ entries many names (suc group)

unfoldable pub name_index : Names → List ℕ
name_index names = entries group_limit names 1
