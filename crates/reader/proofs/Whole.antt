-- The whole rule: from what the reader of its branches promises, begun behind the end's node, to the rule's reading.
use Rattle.std.specs.Prelude.{Ok, Err, if◌then◌else◌}
use mathlib.Core.Path.{◌≡◌, refl, ◌∙◌}
use mathlib.Core.List.{List, []}
use Prim.Native.Nat.{ℕ, ◌≤◌, ◌<◌}
use native.Mathlib.Omega.{arith}
use borrow.Author.Tests.{ne_eqb}
use lib.ListN.{length, set, length-set}
use lib.Seq.{get_or-set_same}
use Rattle.syntax.specs.declared.Reason.TheVariants.{UnopenedGroup}
use Rattle.syntax.specs.declared.Refusal.{Refusal}
use Rattle.syntax.specs.Limits.{group_limit, rule_limit, rule_area_need, spans_length, nesting_limit}
use Rattle.syntax.specs.Read.{byte, is_end, Read, sound, refused, and_then}
use Rattle.syntax.specs.Tree.{Rule}
use Rattle.syntax.specs.Names.{Names}
use Rattle.syntax.specs.Grammar.{alternation, inside}
use Rattle.syntax.specs.Reading.{parsed}
use Rattle.lexemes.specs.Says.{Peeked}
use Rattle.name_table.specs.Table.{names_in}
use Rattle.parts.specs.declared.Cursor.{Cursor}
use Rattle.parts.specs.declared.Part.{Part}
use Rattle.reader.specs.Areas.{table_start}
use Rattle.parts.specs.Says.{Ready}
use Rattle.reader.specs.Says.{Naming, Alternates, Reads}

-- the cursor behind the end's node
abbrev pub beginning : Cursor
beginning = record { at = 0; used = 1; opened = 0 }

pub enough : (area : List ℕ) → table_start ≤ length area → 0 < length area
unfolding table_start rule_area_need spans_length group_limit
enough area h = omega arith

pub begins : (s area : List ℕ) → length s ≤ rule_limit → table_start ≤ length area → Ready (length s) (set area 0 9) beginning
unfolding rule_limit table_start rule_area_need spans_length group_limit
begins s area l h = record { within = omega arith; began = omega arith; paid = omega arith; room = simp length-set (omega arith); narrow = omega arith; few = omega arith }

pub names-none : (s table : List ℕ) → spans_length ≤ length table → Naming s table beginning
names-none s table h = record { wide = h; fit = record { room = omega arith; within = λ g u v. absurd (omega arith) } }

-- no group is opened yet
no_names : (s table : List ℕ) → names_in s table 0 ≡ []
unfolding names_in
no_names s table = refl

whole : (s : List ℕ) (flags : ℕ) (known : Names) (table : List ℕ) (a : Read (Rule × Names)) → alternation s flags known (inside 24 s flags known) (names_in s table 0) 0 ≡ a
    → parsed s flags known ≡ and_then a (λ r at. if is_end (byte s at) then sound r at else refused at UnopenedGroup)
unfolding parsed nesting_limit
whole s flags known table a e = rw (rw (no_names s table) at e)

module _ (s : List ℕ) (flags : ℕ) (area new names table : List ℕ) where
  pub whole-refused : (f : Refusal) → Alternates s flags 24 (set area 0 9) new names table beginning (Err f) → Reads s flags new table (Err f)
  whole-refused f x = λ known. whole s flags known names (refused f.place f.reason) (x.claim known)

  module _ (q : Part) (x : Alternates s flags 24 (set area 0 9) new names table beginning (Ok q)) {b : ℕ} (peeked : Peeked s q.cursor.at b) where
    pub whole-unopened : (b ≡ 256 → ⊥) → Reads s flags new table (Err (record { place = q.cursor.at; reason = UnopenedGroup }))
    unfolding is_end
    whole-unopened ne = λ known.
        let y = x.claim known in
        whole s flags known names (sound (y.0, names_in s table q.cursor.opened) q.cursor.at) y.1 ∙ rw (← peeked.is) (simp (ne_eqb b 256 ne))

    pub whole-sound : b ≡ 256 → length s ≤ rule_limit → table_start ≤ length area → length new ≡ length area → Reads s flags new table (Ok q)
    unfolding is_end rule_limit table_start rule_area_need spans_length group_limit
    whole-sound z l h long =
        let m = x.moved in
        record {
          is = λ known.
              let y = x.claim known in
              (y.0, whole s flags known names (sound (y.0, names_in s table q.cursor.opened) q.cursor.at) y.1 ∙ rw (← peeked.is, z), y.2);
          end = x.frame 0 (omega arith) ∙ get_or-set_same area 0 9 0 (omega arith);
          fit = x.names;
          within = omega (arith, m.paid, m.within);
          small = omega (arith, m.paid, m.within);
        }
