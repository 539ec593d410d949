-- What a check of a proposed reading cannot follow of a rule that is sound. 02, request m): "After the rule's own refusals, 35 is given for l)'s forms, at the
-- first (a possessive's place is its `+`), then 36 for an alternation of more than 256 branches, at the lowest bar before a 257th."
-- docs/REFERENCE.md, 10.6
use Rattle.std.proofs.Math.Option.{Option, none, some}
use Rattle.std.specs.Prelude.{ℕ, min, eqb, if◌then◌else◌}
use Rattle.syntax.specs.declared.Reason.{Reason}
use Rattle.syntax.specs.declared.Reason.TheVariants.{HeldOrLook, TooManyBranches}
use Rattle.syntax.specs.Limits.{branch_limit}
use Rattle.syntax.specs.Tree.{Rule, empty, item, seq, alt, group, repeat, held, look, Branches, one, also, branch_count}
use Rattle.syntax.specs.Reading.{first_some}

-- the lower of a place and one that may have been found
unfoldable pub lowest : ℕ → Option ℕ → ℕ
lowest place none = place
lowest place (some p) = min place p

-- "35 is given for l)'s forms, at the first (a possessive's place is its `+`)", which comes behind what it repeats
unfoldable mutual
  pub unfollowed : Rule → Option ℕ
  unfollowed empty = none
  unfollowed (item place i) = none
  unfollowed (seq a b) = first_some (unfollowed a) (unfollowed b)
  unfollowed (alt bs bar b) = first_some (unfollowed_in bs) (unfollowed b)
  unfollowed (group n a) = unfollowed a
  unfollowed (repeat place least most g a) = unfollowed a
  unfollowed (held place a) = some (lowest place (unfollowed a))
  unfollowed (look place negative a) = some (lowest place (unfollowed a))

  pub unfollowed_in : Branches → Option ℕ
  unfollowed_in (one a) = unfollowed a
  unfollowed_in (also bs bar b) = first_some (unfollowed_in bs) (unfollowed b)

-- the bar before a branch that would be the 257th
unfoldable pub crowded_at : (before bar : ℕ) → Option ℕ
crowded_at before bar = if eqb before branch_limit then some bar else none

-- "36 for an alternation of more than 256 branches, at the lowest bar before a 257th". What stands before a bar has lower places than it, what stands
-- behind it higher ones.
unfoldable mutual
  pub crowded : Rule → Option ℕ
  crowded empty = none
  crowded (item place i) = none
  crowded (seq a b) = first_some (crowded a) (crowded b)
  crowded (alt bs bar b) = first_some (crowded_in bs) (first_some (crowded_at (branch_count bs) bar) (crowded b))
  crowded (group n a) = crowded a
  crowded (repeat place least most g a) = crowded a
  crowded (held place a) = crowded a
  crowded (look place negative a) = crowded a

  pub crowded_in : Branches → Option ℕ
  crowded_in (one a) = crowded a
  crowded_in (also bs bar b) = first_some (crowded_in bs) (first_some (crowded_at (branch_count bs) bar) (crowded b))

-- a place that was found, with its reason; where none was, what is found after it
unfoldable pub or_else : Option ℕ → Reason → Option (ℕ × Reason) → Option (ℕ × Reason)
or_else (some place) why after = some (place, why)
or_else none why after = after

-- "35 .., then 36": the refusal of a rule that a check cannot follow
unfoldable pub uncheckable : Rule → Option (ℕ × Reason)
uncheckable t = or_else (unfollowed t) HeldOrLook (or_else (crowded t) TooManyBranches none)
