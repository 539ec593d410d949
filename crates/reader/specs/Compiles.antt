-- What compiling a rule promises: for a check, or for a call of any other kind.
-- docs/REFERENCE.md, 4.1, 10.6
use Rattle.std.specs.Prelude.{◌≡◌, Bool, true, false, List, ◌⊎◌, ℕ, ◌≤◌, Result, Ok, Err, get_or, length, drop}
use Rattle.std.proofs.Math.Option.{none, some}
use Rattle.syntax.specs.declared.Refusal.{Refusal}
use Rattle.syntax.specs.Limits.{rule_area_need, spans_length}
use Rattle.syntax.specs.Read.{sound, refused}
use Rattle.syntax.specs.Tree.{Rule}
use Rattle.syntax.specs.Reading.{names_of, reading}
use Rattle.syntax.specs.Checkable.{uncheckable}
use Rattle.syntax.specs.Compiled.{Compiled}
use Rattle.name_table.specs.Table.{Spelled}
use Rattle.reader.specs.Areas.{table_start}
use Rattle.reader.specs.declared.compiling.Compiled.{Compiled as CompiledRule}

-- The rule that the bytes and flags give stands compiled in the area below `top`, entered at pc; the end's node, at position 0, follows it. The table
-- spells the names of its groups. A check can follow it, if it is compiled for one.
pub record StandsWith (checked : Bool) (s : List ℕ) (flags : ℕ) (area table : List ℕ) (top pc groups : ℕ) : Type 0 where
  pub tree : Rule
  pub stop : ℕ
  pub reads : reading s flags ≡ sound (tree, groups) stop
  pub end : get_or area 0 0 ≡ 9
  pub compiled : Compiled area 1 top tree pc 0 spans_length
  pub near : pc ≤ top
  pub many : length (names_of s flags) ≡ groups
  pub named : Spelled s (names_of s flags) table
  pub followed : checked ≡ true → uncheckable tree ≡ none

-- the table stands in the area too
abbrev pub Stands : Bool → List ℕ → ℕ → List ℕ → (pc groups : ℕ) → Type 0
Stands checked s flags area pc groups = StandsWith checked s flags area (drop table_start area) rule_area_need pc groups

-- the rule is sound, but a check cannot follow it
pub record Unfollowed (s : List ℕ) (flags : ℕ) (f : Refusal) : Type 0 where
  pub tree : Rule
  pub groups : ℕ
  pub stop : ℕ
  pub reads : reading s flags ≡ sound (tree, groups) stop
  pub found : uncheckable tree ≡ some (f.place, f.reason)

-- there is no rule to stand: only a check has more to refuse than the reading
abbrev pub Fails : Bool → List ℕ → ℕ → Refusal → Type 0
Fails false s flags f = reading s flags ≡ refused f.place f.reason
Fails true s flags f = (reading s flags ≡ refused f.place f.reason) ⊎ Unfollowed s flags f

abbrev pub SaysWith : Bool → List ℕ → ℕ → (area table : List ℕ) → ℕ → Result CompiledRule Refusal → Type 0
SaysWith checked s flags area table top (Ok c) = StandsWith checked s flags area table top c.entry c.groups
SaysWith checked s flags area table top (Err f) = Fails checked s flags f

abbrev pub Says : Bool → List ℕ → ℕ → List ℕ → Result CompiledRule Refusal → Type 0
Says checked s flags area r = SaysWith checked s flags area (drop table_start area) rule_area_need r

-- the answer is the reading's, and nothing behind the needed part of the area changed
pub record Compiles (checked : Bool) (s : List ℕ) (flags : ℕ) (old new : List ℕ) (r : Result CompiledRule Refusal) : Type 0 where
  pub says : Says checked s flags new r
  pub rest : drop rule_area_need new ≡ drop rule_area_need old
  pub long : length new ≡ length old
