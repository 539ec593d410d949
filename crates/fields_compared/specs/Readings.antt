-- Whether two readings of a line have the same fields.
-- docs/REFERENCE.md, 19.3
use Rattle.std.specs.Prelude.{List, [], ◌∷◌, Bool, true, false, not, ◌&&◌, ◌||◌, ℕ, eqb, get_or}
use Rattle.syntax.specs.Sets.{same_bytes}
use Rattle.semantics.specs.States.{Row}
use Rattle.fields_row.specs.Fields.{field_named}

module _ (index line standing : List ℕ) where
  -- two readings have the same fields
  unfoldable pub agree : (x y : Row) (names : List (List ℕ)) → Bool
  agree x y [] = true
  agree x y (name ∷ names) = same_bytes (field_named index line standing 0 x name) (field_named index line standing 0 y name) && agree x y names

  -- "another reading of the same stretch (the match's start and end) gives a named field another value"
  unfoldable pub is_other : (names : List (List ℕ)) (x y : Row) → Bool
  is_other names x y = eqb (get_or y 0 0) (get_or x 0 0) && eqb (get_or y 1 0) (get_or x 1 0) && not (agree x y names)

  -- one of the readings listed does; x is the match's
  unfoldable pub is_ambiguous : (names : List (List ℕ)) (x : Row) (rows : List Row) → Bool
  is_ambiguous names x [] = false
  is_ambiguous names x (y ∷ rows) = is_other names x y || is_ambiguous names x rows
