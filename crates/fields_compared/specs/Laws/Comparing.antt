-- The comparison of readings, one column and one row at a time.
use Rattle.std.specs.Prelude.{◌≡◌, Bool, true, false, not, List, ◌∷◌, get_or, take, drop}
use Prim.Native.Nat.{ℕ, suc, ◌+◌, ◌-◌, ◌*◌, ◌≤◌, ◌<◌}
use native.Mathlib.Omega.{arith}
use borrow.Author.Tests.{eq-eqb, ne_eqb}
use Rattle.syntax.specs.Limits.{row_length}
use Rattle.syntax.specs.Sets.{same_bytes}
use Rattle.semantics.specs.States.{Row}
use Rattle.index.specs.Rows.{rows_at}
use Rattle.fields_columns.specs.Columns.{name_at, names_from}
use Rattle.fields_columns.specs.Laws.Columns.{names-next, names-none}
use Rattle.fields_row.specs.Fields.{field_named}
use Rattle.fields_compared.specs.Readings.{agree, is_other, is_ambiguous}

-- a row as the code takes it
pub row-part : (i : ℕ) (results : List ℕ) → take (i * row_length + row_length - i * row_length) (drop (i * row_length) results) ≡ take row_length (drop (i * row_length) results)
unfolding row_length
row-part i results = let e : i * row_length + row_length - i * row_length ≡ row_length = omega arith in rw e

module _ (index line standing : List ℕ) where
  -- the columns that are left
  module _ (columns : List ℕ) (x y : Row) (i count : ℕ) where
    abbrev alike : Bool
    alike = same_bytes (field_named index line standing 0 x (name_at columns i)) (field_named index line standing 0 y (name_at columns i))

    pub agree_on : i < count → alike ≡ true → agree index line standing x y (names_from columns i (count - i)) ≡ agree index line standing x y (names_from columns (suc i) (count - suc i))
    unfolding agree
    agree_on h e = rw (names-next columns i count h, e)

    pub agree-not : i < count → alike ≡ false → agree index line standing x y (names_from columns i (count - i)) ≡ false
    unfolding agree
    agree-not h e = rw (names-next columns i count h, e)

    pub agree-end : count ≤ i → agree index line standing x y (names_from columns i (count - i)) ≡ true
    unfolding agree
    agree-end h = rw (names-none columns i count h)

  -- two readings
  module _ (names : List (List ℕ)) (x y : Row) where
    pub other-start : (get_or y 0 0 ≡ get_or x 0 0 → ⊥) → is_other index line standing names x y ≡ false
    unfolding is_other
    other-start h = rw (ne_eqb (get_or y 0 0) (get_or x 0 0) h)

    pub other-end : get_or y 0 0 ≡ get_or x 0 0 → (get_or y 1 0 ≡ get_or x 1 0 → ⊥) → is_other index line standing names x y ≡ false
    unfolding is_other
    other-end e h = rw (eq-eqb (get_or y 0 0) (get_or x 0 0) e, ne_eqb (get_or y 1 0) (get_or x 1 0) h)

    pub same-stretch : get_or y 0 0 ≡ get_or x 0 0 → get_or y 1 0 ≡ get_or x 1 0 → is_other index line standing names x y ≡ not (agree index line standing x y names)
    unfolding is_other
    same-stretch e f = rw (eq-eqb (get_or y 0 0) (get_or x 0 0) e, eq-eqb (get_or y 1 0) (get_or x 1 0) f)

  -- the rows that are left
  module _ (names : List (List ℕ)) (x : Row) (results : List ℕ) (i count : ℕ) where
    rest-is : i < count → rows_at results (i * row_length) (count - i) ≡ take row_length (drop (i * row_length) results) ∷ rows_at results (suc i * row_length) (count - suc i)
    unfolding rows_at row_length
    rest-is h =
        let e : count - i ≡ suc (count - suc i) = omega arith in
        let f : i * row_length + row_length ≡ suc i * row_length = omega arith in
        rw (e, f)

    pub ambiguous-here : i < count → is_other index line standing names x (take row_length (drop (i * row_length) results)) ≡ true → is_ambiguous index line standing names x (rows_at results (i * row_length) (count - i)) ≡ true
    unfolding is_ambiguous
    ambiguous-here h e = rw (rest-is h, e)

    pub ambiguous-on : i < count → is_other index line standing names x (take row_length (drop (i * row_length) results)) ≡ false
        → is_ambiguous index line standing names x (rows_at results (i * row_length) (count - i)) ≡ is_ambiguous index line standing names x (rows_at results (suc i * row_length) (count - suc i))
    unfolding is_ambiguous
    ambiguous-on h e = rw (rest-is h, e)

    pub ambiguous-none : count ≤ i → is_ambiguous index line standing names x (rows_at results (i * row_length) (count - i)) ≡ false
    unfolding is_ambiguous rows_at
    ambiguous-none h = let e : count - i ≡ 0 = omega arith in rw e
