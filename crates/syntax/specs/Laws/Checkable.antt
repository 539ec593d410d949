-- The refusal of a rule that a check cannot follow, by what was found of l)'s forms and of too many branches.
use Rattle.std.specs.Prelude.{◌≡◌, refl, ℕ}
use Rattle.std.proofs.Math.Option.{none, some}
use Rattle.syntax.specs.declared.Reason.TheVariants.{HeldOrLook, TooManyBranches}
use Rattle.syntax.specs.Tree.{Rule}
use Rattle.syntax.specs.Checkable.{unfollowed, crowded, or_else, uncheckable}

pub form-uncheckable : (t : Rule) (place : ℕ) → unfollowed t ≡ some place → uncheckable t ≡ some (place, HeldOrLook)
unfolding uncheckable or_else
form-uncheckable t place e = rw e refl

pub crowd-uncheckable : (t : Rule) (bar : ℕ) → unfollowed t ≡ none → crowded t ≡ some bar → uncheckable t ≡ some (bar, TooManyBranches)
unfolding uncheckable or_else
crowd-uncheckable t bar f e = rw (f, e) refl

pub is-checkable : (t : Rule) → unfollowed t ≡ none → crowded t ≡ none → uncheckable t ≡ none
unfolding uncheckable or_else
is-checkable t f e = rw (f, e) refl
