-- What ties names, index and lookup: on a match, the lookup by a group's name gives exactly the bytes of its span. It is said of the calls as they are
-- defined: of the index and the row that `match_call` leaves, whatever is handed in.
-- docs/REFERENCE.md, 16.7
use Rattle.std.specs.Prelude.{◌≡◌, List, false, ℕ, ◌≤◌, length}
use Rattle.std.proofs.Common.{ap, ◌∙◌}
use Rattle.std.proofs.Math.Seq.{slice}
use Rattle.syntax.specs.Limits.{row_length}
use Rattle.syntax.specs.Tree.{Rule}
use Rattle.syntax.specs.Names.{Name, Names, is_used}
use Rattle.syntax.specs.Reading.{names_of}
use Rattle.syntax.specs.Laws.Names.{names_of-short, names_of-apart, names_of-few}
use Rattle.semantics.specs.States.{State, Row, row}
use Rattle.semantics.specs.NameIndex.{name_of, name_index}
use Rattle.semantics.specs.Answers.{matched}
use Rattle.semantics.specs.Calls.{Call, over, match_call}
use Rattle.semantics.specs.Demands.{Accepted, span_from, span_to, IsUnset}
use Rattle.semantics.proofs.DemandsHold.{match-meets-demands}
use Rattle.semantics.proofs.Laws.Areas.{written_over}
use Rattle.lookup.specs.declared.Found.{Found}
use Rattle.lookup.specs.declared.Found.TheVariants.{Standing, Nothing}
use Rattle.lookup.specs.Names.{group_named}
use Rattle.lookup.specs.Lookup.{lookup, field_of}
use Rattle.lookup.specs.FieldsHold.{FieldDemands, fields-of-match}
use Rattle.lookup.specs.Laws.Filled.{found_at, not_found}

-- a field looked up with what a call left
abbrev pub looked_up : Call → Name → Found
looked_up c name = lookup name (match_call c).names c.subject 0 (match_call c).result_area

-- x is the row of the match. A group of the rule has a name if it is not [].
pub record NamedFields (c : Call) (standing : List ℕ) (x : Row) : Type 0 where
  pub took : (group : ℕ) → 1 ≤ group → group ≤ length (names_of c.rule c.flags) → 1 ≤ length (name_of (names_of c.rule c.flags) group) → ¬ IsUnset (span_from x group) (span_to x group)
      → field_of c.subject standing (looked_up c (name_of (names_of c.rule c.flags) group)) ≡ slice (span_from x group) (span_to x group) c.subject
  pub stood : (group : ℕ) → 1 ≤ group → group ≤ length (names_of c.rule c.flags) → 1 ≤ length (name_of (names_of c.rule c.flags) group) → IsUnset (span_from x group) (span_to x group)
      → looked_up c (name_of (names_of c.rule c.flags) group) ≡ Standing
  pub unknown_name : (name : Name) → 1 ≤ length name → is_used name (names_of c.rule c.flags) ≡ false → looked_up c name ≡ Nothing

module _ (c : Call) (r : Rule) (groups : ℕ) (accepted : Accepted row_length c r groups) where
  abbrev ns : Names
  ns = names_of c.rule c.flags

  index_is : (match_call c).names ≡ over (name_index ns) c.names
  index_is = written_over (name_index ns) c.names (match_call c).names ((match-meets-demands c).demand_1.index_filled r groups accepted)

  named : (group : ℕ) → 1 ≤ group → group ≤ length ns → 1 ≤ length (name_of ns group) → group_named (name_of ns group) (match_call c).names ≡ group
  named group l h k = ap (group_named (name_of ns group)) index_is ∙ found_at ns c.names (names_of-short c.rule c.flags) (names_of-few c.rule c.flags) (names_of-apart c.rule c.flags) group l h k

  pub named-fields : (standing : List ℕ) (n : ℕ) (t : State) → ((match-meets-demands c).answers r groups accepted).answer.outcome ≡ matched n t → NamedFields c standing (row n t)
  named-fields standing n t e =
      let f : (name : Name) → FieldDemands name (match_call c).names c.subject standing (row n t) (match_call c).result_area = λ name. fields-of-match name (match_call c).names standing c r groups accepted n t e in
      record {
        took = λ group l h k s. (f (name_of ns group)).took group l (named group l h k) s;
        stood = λ group l h k u. (f (name_of ns group)).stood group l (named group l h k) u;
        unknown_name = λ name k u. (f name).unknown_field (ap (group_named name) index_is ∙ not_found ns c.names (names_of-short c.rule c.flags) (names_of-few c.rule c.flags) name k u);
      }
