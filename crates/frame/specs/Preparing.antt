-- Preparing a call: what it tells, and what it leaves in the rule area, the work area and the name index.
-- docs/REFERENCE.md, 10.6, 15.3, 18.4
use Rattle.std.specs.Prelude.{◌≡◌, Bool, true, List, ℕ, ◌≤◌, Result, Ok, Err, length, take, drop}
use Rattle.std.proofs.Math.Option.{none, some}
use Rattle.syntax.specs.declared.Refusal.{Refusal}
use Rattle.syntax.specs.Limits.{rule_limit, rule_area_need, name_index_need}
use Rattle.syntax.specs.Read.{sound, refused}
use Rattle.syntax.specs.Tree.{Rule}
use Rattle.syntax.specs.Reading.{names_of, reading}
use Rattle.syntax.specs.Checkable.{uncheckable}
use Rattle.semantics.specs.Calls.{Call, work_area_need, unacceptable, over, cleared}
use Rattle.semantics.specs.NameIndex.{name_index}
use Rattle.machine.specs.Theorem.{Stands}
use Rattle.reader.specs.declared.compiling.Compiled.{Compiled}

-- the rule and the areas are such that the rule can be read
pub record Lends (rule : List ℕ) (budget : ℕ) (rule_area work_area names : List ℕ) : Type 0 where
  pub rule_fits : length rule ≤ rule_limit
  pub rule_area_fits : rule_area_need ≤ length rule_area
  pub work_area_fits : work_area_need budget ≤ length work_area
  pub names_fit : name_index_need ≤ length names

-- a refused call, and its areas. "After refusals 1 to 7 both areas are unchanged; after any other return their needed first part is zero and the
-- rest unchanged." 02: "a refused call leaves the index unchanged". Only a check refuses a rule that is sound.
pub data Denied (checked : Bool) (need : ℕ) (c : Call) (f : Refusal) (rule_area work_area names : List ℕ) : Type 0 where
  unread : f.place ≡ 0 → some f.reason ≡ unacceptable need c → rule_area ≡ c.rule_area → work_area ≡ c.work_area → names ≡ c.names → Denied checked need c f rule_area work_area names
  unsound : none ≡ unacceptable need c → reading c.rule c.flags ≡ refused f.place f.reason
      → rule_area ≡ cleared rule_area_need c.rule_area → work_area ≡ cleared (work_area_need c.budget) c.work_area → names ≡ c.names → Denied checked need c f rule_area work_area names
  unfollowed : {tree : Rule} {groups stop : ℕ} → checked ≡ true → none ≡ unacceptable need c → reading c.rule c.flags ≡ sound (tree, groups) stop → uncheckable tree ≡ some (f.place, f.reason)
      → rule_area ≡ cleared rule_area_need c.rule_area → work_area ≡ cleared (work_area_need c.budget) c.work_area → names ≡ c.names → Denied checked need c f rule_area work_area names

-- a call that is answered: its rule stands compiled in the needed part of the rule area, the index is filled, and nothing else has changed; a check can
-- follow its rule
pub record Readied (checked : Bool) (need : ℕ) (c : Call) (entry groups : ℕ) (rule_area work_area names : List ℕ) : Type 0 where
  pub accepted : none ≡ unacceptable need c
  pub tree : Rule
  pub stop : ℕ
  pub reads : reading c.rule c.flags ≡ sound (tree, groups) stop
  pub stands : Stands (take rule_area_need rule_area) tree entry
  pub long : length rule_area ≡ length c.rule_area
  pub rest : drop rule_area_need rule_area ≡ drop rule_area_need c.rule_area
  pub untouched : work_area ≡ c.work_area
  pub filled : names ≡ over (name_index (names_of c.rule c.flags)) c.names
  pub followed : checked ≡ true → uncheckable tree ≡ none

abbrev pub Prepares : (checked : Bool) (need : ℕ) → Call → Result Compiled Refusal → (rule_area work_area names : List ℕ) → Type 0
Prepares checked need c (Ok x) rule_area work_area names = Readied checked need c x.entry x.groups rule_area work_area names
Prepares checked need c (Err f) rule_area work_area names = Denied checked need c f rule_area work_area names
