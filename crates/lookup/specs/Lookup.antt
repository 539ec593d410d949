-- The field lookup. 02, e): "given a name, an index .., the line, its answer and the farm's standing text, the field is the part of the line
-- that the group took, or the standing text itself when the group is unset. For an unknown field, or when the line didn't match, it is the
-- standing text's empty beginning. If the answer row breaks 01's row rules for the line, that counts as not matched."
-- docs/REFERENCE.md, 16.7
use Rattle.std.specs.Prelude.{◌≡◌, List, [], ◌&&◌, ℕ, ◌+◌, eqb, length, take, if◌then◌else◌}
use Rattle.std.specs.Borrow.{Bor}
use Rattle.std.proofs.Math.Seq.{slice}
use Rattle.syntax.specs.Limits.{row_length}
use Rattle.semantics.specs.States.{Row}
use Rattle.semantics.specs.Demands.{span_from, span_to}
use Rattle.lookup.specs.declared.Found.{Found}
use Rattle.lookup.specs.declared.Found.TheVariants.{Taken, Standing, Nothing}
use Rattle.lookup.specs.Names.{group_named}
use Rattle.lookup.specs.Rows.{is_unset, is_row}

-- "the part of the line that the group took, or the standing text itself when the group is unset"
unfoldable pub of_span : (from to : ℕ) → Found
of_span from to = if is_unset from to then Standing else Taken from to

-- "For an unknown field": the name has no group
unfoldable pub of_group : (group : ℕ) (row : Row) → Found
of_group group row = if eqb group 0 then Nothing else of_span (span_from row group) (span_to row group)

-- The answer is its kind, of which 0 is matched, and the numbers lent for its row: as many of them as a row has are the row, and fewer are none.
unfoldable pub lookup : (name names line : List ℕ) (kind : ℕ) (numbers : List ℕ) → Found
lookup name names line kind numbers =
    let row = take row_length numbers in
    if eqb kind 0 && is_row (length line) row then of_group (group_named name names) row else Nothing

-- A lent slice is the part of another from one position to a second: it stands there, and has those bytes. Where a slice stands, `ref_ptr`, is a
-- block of memory and the position in it.
pub record PartOf (whole : Bor (List ℕ)) (from to : ℕ) (part : Bor (List ℕ)) : Type 0 where
  pub place : part.ref_ptr ≡ (whole.ref_ptr.0, from + whole.ref_ptr.1)
  pub bytes : part.now ≡ slice from to whole.now

-- a field as a lent slice: a part of the line, or of the standing text
unfoldable pub Lent : (line standing : Bor (List ℕ)) → Found → Bor (List ℕ) → Type 0
Lent line standing (Taken from to) field = PartOf line from to field
Lent line standing Standing field = PartOf standing 0 (length standing.now) field
Lent line standing Nothing field = PartOf standing 0 0 field

-- its bytes
unfoldable pub field_of : (line standing : List ℕ) → Found → List ℕ
field_of line standing (Taken from to) = slice from to line
field_of line standing Standing = standing
field_of line standing Nothing = []
