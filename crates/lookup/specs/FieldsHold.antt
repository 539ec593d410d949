-- What the lookup gives after a match, sentence by sentence, for all inputs.
-- docs/REFERENCE.md, 16.7
use Rattle.std.specs.Prelude.{◌≡◌, refl, List, ℕ, ◌≤◌, take}
use Rattle.std.proofs.Common.{sym, ◌∙◌, arith}
use Rattle.std.proofs.Math.Path.{ap}
use Rattle.std.proofs.Math.Seq.{slice}
use Rattle.syntax.specs.Limits.{row_length}
use Rattle.syntax.specs.Tree.{Rule}
use Rattle.semantics.specs.States.{State, Row, row}
use Rattle.semantics.specs.Answers.{matched}
use Rattle.semantics.specs.Calls.{Call, match_call}
use Rattle.semantics.specs.Demands.{Accepted, span_from, span_to, IsUnset, RowFacts}
use Rattle.semantics.proofs.DemandsHold.{match-meets-demands}
use Rattle.lookup.specs.declared.Found.TheVariants.{Standing, Nothing}
use Rattle.lookup.specs.Names.{group_named}
use Rattle.lookup.specs.Lookup.{of_group, lookup, field_of}
use Rattle.lookup.specs.Laws.Rows.{row-test}
use Rattle.lookup.specs.Laws.Lookup.{not-matched, by-group, unknown, of-set, of-unset}

-- The lookups of a name after an answer whose row is x, of which `numbers` were lent. The group is the one that the index gives.
pub record FieldDemands (name names line standing : List ℕ) (x : Row) (numbers : List ℕ) : Type 0 where
  -- "the field is the part of the line that the group took,
  pub took : (group : ℕ) → 1 ≤ group → group_named name names ≡ group → ¬ IsUnset (span_from x group) (span_to x group) → field_of line standing (lookup name names line 0 numbers) ≡ slice (span_from x group) (span_to x group) line
  -- or the standing text itself when the group is unset.
  pub stood : (group : ℕ) → 1 ≤ group → group_named name names ≡ group → IsUnset (span_from x group) (span_to x group) → lookup name names line 0 numbers ≡ Standing
  -- For an unknown field,
  pub unknown_field : group_named name names ≡ 0 → lookup name names line 0 numbers ≡ Nothing
  -- or when the line didn't match, it is the standing text's empty beginning."
  pub unmatched : (kind : ℕ) → 1 ≤ kind → lookup name names line kind numbers ≡ Nothing

-- They hold of every row that is right for the line, as those of a match and of a listing are.
module _ (name names line standing : List ℕ) (groups : ℕ) (x : Row) (numbers : List ℕ) (first : take row_length numbers ≡ x) (facts : RowFacts line groups x) where
  found : lookup name names line 0 numbers ≡ of_group (group_named name names) x
  found = by-group name names line 0 numbers refl (rw first (row-test line groups x facts)) ∙ ap (of_group (group_named name names)) first

  pub fields-hold : FieldDemands name names line standing x numbers
  unfolding field_of
  fields-hold = record {
    took = λ group l g s. ap (field_of line standing) (found ∙ ap (λ (n : ℕ). of_group n x) g ∙ of-set group x l s);
    stood = λ group l g u. found ∙ ap (λ (n : ℕ). of_group n x) g ∙ of-unset group x l u;
    unknown_field = λ g. found ∙ unknown (group_named name names) x g;
    unmatched = λ kind l. not-matched name names line kind numbers (λ e. omega arith);
  }

-- So they hold of the result area that a match leaves, whenever it is matched.
pub fields-of-match : (name names standing : List ℕ) (c : Call) (r : Rule) (groups : ℕ) (accepted : Accepted row_length c r groups) (n : ℕ) (t : State) → ((match-meets-demands c).answers r groups accepted).answer.outcome ≡ matched n t → FieldDemands name names c.subject standing (row n t) (match_call c).result_area
fields-of-match name names standing c r groups accepted n t e =
    let m = ((match-meets-demands c).answers r groups accepted).when_matched n t e in
    let facts = m.2 in
    fields-hold name names c.subject standing groups (row n t) (match_call c).result_area (ap (λ (k : ℕ). take k (match_call c).result_area) (sym facts.size) ∙ m.1.first) facts
